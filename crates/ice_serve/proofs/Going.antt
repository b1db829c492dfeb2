-- What goes on, said in other words, and joined.
use Rattle.std.proofs.Common.{ℕ, List, [], ◌++◌, subst, append-nil}
use Rattle.part_spec.specs.declared.part.Part.{Part}
use Rattle.debug_spec.specs.Moved.{Flash}
use Rattle.debug_spec.specs.Schedule.{Session}
use Rattle.debug_spec.specs.Carries.{Along}
use Rattle.run_control.specs.declared.job.Job.{Job}
use Rattle.ice_emul.specs.Standing.{StandsFor}
use Rattle.ice_emul.specs.declared.emulator.Emulator.{Emulator}
use Rattle.ice_serve.specs.Carrying.{Stands}
use Rattle.ice_serve.specs.Keeping.{Seen, IsKept, place, Continues}
use Rattle.ice_serve.proofs.Carrying.{carries_onward, carries_said}

module _ {F : Type 0} (flash : Flash F) (part_of : F → Part) (Goes : Session → Session → Type 0) (e : Emulator F) (job : Job F) (v : Seen F)
    (out : List ℕ) (mid : Emulator F) (now : Seen F) (first : Continues flash part_of Goes e job v out mid now) where
  -- a relation may be said of what is stood for before and after
  pub said_so : (Then : Session → Session → Type 0) →
      ((s t : Session) → Stands (StandsFor flash) (place e job v) s → Stands (StandsFor flash) (place mid first.job_then now) t → Goes s t →
      Then s t) → Continues flash part_of Then e job v out mid now
  said_so Then says = record {
    job_then = first.job_then;
    kept = first.kept;
    goes = carries_said flash (λ h. h.job.flash) (StandsFor flash) Goes Then (place e job v) (place mid first.job_then now) out says
        first.goes;
  }

  -- one and then another
  pub goes_onward : (Then : Session → Session → Type 0) (more : List ℕ) (after : Emulator F) (later : Seen F) →
      Continues flash part_of Then mid first.job_then now more after later →
      Continues flash part_of (Along Goes Then) e job v (out ++ more) after later
  goes_onward Then more after later next = record {
    job_then = next.job_then;
    kept = next.kept;
    goes = carries_onward flash (λ h. h.job.flash) (StandsFor flash) Goes Then (place e job v) (place mid first.job_then now)
        (place after next.job_then later) out more first.goes next.goes;
  }

  -- where nothing more is sent
  pub goes_silently : (Then : Session → Session → Type 0) (after : Emulator F) (later : Seen F) →
      ((own : Job F) → IsKept flash part_of mid own now → Continues flash part_of Then mid own now [] after later) →
      Continues flash part_of (Along Goes Then) e job v out after later
  goes_silently Then after later second =
      subst (λ (l : List ℕ). Continues flash part_of (Along Goes Then) e job v l after later) (append-nil out)
      (goes_onward Then [] after later (second first.job_then first.kept))
