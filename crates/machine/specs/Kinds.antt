-- The kinds of an entry, and their numbers.
use Rattle.std.specs.Prelude.{◌≡◌, ◌≢◌, ℕ, Result, MatchResult}
use Rattle.ledger.specs.Layout.{keep_kind, limit_kind, mark_kind}
use Rattle.machine.specs.declared.rows.Kind.{Kind}
use Rattle.machine.specs.declared.rows.Kind.TheVariants as the
use Rattle.machine.specs.declared.rows.NoKind.{NoKind}

abbrev pub kind_number : Kind → ℕ
kind_number the.Keep = keep_kind
kind_number the.Limit = limit_kind
kind_number the.Mark = mark_kind

-- the kind with this number, or none, where no kind has it
abbrev pub IsKindOf : ℕ → Result Kind NoKind → Type 0
IsKindOf n r = MatchResult r (λ k. kind_number k ≡ n) (λ e. (n ≢ keep_kind) × (n ≢ limit_kind) × (n ≢ mark_kind))
