use native.Mathlib.Omega.{arith}
use Rattle.sheet.proofs.Taking.{final_in_lem, put_final, put_arc, put_out}
use Rattle.sheet.proofs.take.put_row.Goals as goal

pub returns-in-Final : goal.returns-in-Final
returns-in-Final c = put_final c.args.size.values _ _ _ _ (omega arith) _ c.in-Final.is (omega (arith, final_in_lem c.args.size _ _ c.requires.2 c.in-Final.is, c.requires.1))

pub returns-then-i-targets : goal.returns-then-i-targets
returns-then-i-targets c = put_arc c.args.size.values _ _ _ _ (omega arith) _ _ _ _ _ c.in-Arc.is c.arc_at-i.ensures

pub returns-else-i-targets : goal.returns-else-i-targets
returns-else-i-targets c = put_out c.args.size.values _ _ _ _ (omega arith) _ _ _ _ c.in-Arc.is c.requires.0 (omega (arith, c.arc_at-i.ensures))
