-- Each public contract leaves one outcome: any two that it allows are equal. Assumes nothing.
use mathlib.Core.Path.{◌≡◌}
use mathlib.Core.List.{List}
use Prim.Native.Nat.{ℕ}
use Rattle.text.specs.Writing.{Wrote}
use Rattle.text.proofs.Unique.{put_unique}
use Rattle.job.specs.Job.{job_text}
use Rattle.job.specs.Mend.{mend_job_text}

pub job_unique : (input before c d : List ℕ) (r s : ℕ) → Wrote before 0 (job_text input) c r → Wrote before 0 (job_text input) d s → (c ≡ d) × (r ≡ s)
job_unique input before = put_unique before 0 (job_text input)

pub mend_job_unique : (input before c d : List ℕ) (r s : ℕ) → Wrote before 0 (mend_job_text input) c r → Wrote before 0 (mend_job_text input) d s → (c ≡ d) × (r ≡ s)
mend_job_unique input before = put_unique before 0 (mend_job_text input)
