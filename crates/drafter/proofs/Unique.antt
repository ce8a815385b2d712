-- The public contract leaves one outcome: any two that it allows are equal. Assumes nothing.
use mathlib.Core.Path.{◌≡◌}
use mathlib.Core.List.{List}
use Prim.Native.Nat.{ℕ}
use Rattle.text.specs.Writing.{Wrote}
use Rattle.text.proofs.Unique.{put_unique}
use Rattle.drafter.specs.Drafting.{pattern_job_text}

pub pattern_job_unique : (input before c d : List ℕ) (r s : ℕ) → Wrote before 0 (pattern_job_text input) c r → Wrote before 0 (pattern_job_text input) d s → (c ≡ d) × (r ≡ s)
pattern_job_unique input before = put_unique before 0 (pattern_job_text input)
