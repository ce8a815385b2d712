use native.Mathlib.Omega.{arith}
use mathlib.Core.Path.{sym}
use Rattle.sheet.proofs.Outcomes.{no_room}
use Rattle.scribe.proofs.Outcomes.{left_size, left_short, left_tables, left_buffer, left_done, writable}
use Rattle.scribe.proofs.write_sheet.Goals as goal

pub returns-then-not-size_right : goal.returns-then-not-size_right
returns-then-not-size_right c = left_size _ _ _ (sym c.if-not-size_right.ensures)

pub returns-then-not-tables_long : goal.returns-then-not-tables_long
returns-then-not-tables_long c = left_short _ _ _ (sym c.if-not-size_right.ensures) (sym c.if-not-tables_long.ensures)

pub returns-then-not-rules_right : goal.returns-then-not-rules_right
returns-then-not-rules_right c = left_tables _ _ _ (sym c.if-not-size_right.ensures) (sym c.if-not-tables_long.ensures) (sym c.if-not-rules_right.ensures)

pub put_sheet-length-requires : goal.put_sheet-length-requires
put_sheet-length-requires c = writable _ (sym c.if-not-size_right.ensures) (sym c.if-not-tables_long.ensures)

pub returns-then-buffer-length : goal.returns-then-buffer-length
returns-then-buffer-length c = left_buffer _ _ _ (sym c.if-not-rules_right.ensures) c.put_sheet-length.ensures (no_room c.put_sheet-length.new.buffer _ c.put_sheet-length.auto.buffer) c.if-buffer-length.true

pub put_sheet-requires : goal.put_sheet-requires
put_sheet-requires c = writable _ (sym c.if-not-size_right.ensures) (sym c.if-not-tables_long.ensures)

pub returns : goal.returns
returns c = left_done _ _ _ (sym c.if-not-rules_right.ensures) (omega arith) c.put_sheet-length.ensures (no_room c.put_sheet-length.new.buffer _ c.put_sheet-length.auto.buffer) c.if-buffer-length.false c.put_sheet.ensures
