-- The notes so far, and one more.
use Rattle.std.proofs.Common.{◌≡◌, true, List, [], ◌∷◌, ◌++◌, refl, sym, ap, ◌∙◌, subst, append_assoc}
use Rattle.part_spec.specs.Chip.{Chip}
use Rattle.line_spec.specs.Cut.{Item}
use Rattle.debug_spec.specs.Debugger.{listens}
use Rattle.debug_spec.specs.Schedule.{Session, Note, line_ended, Takes, IsSchedule}
use Rattle.debug_spec.specs.CutShort.{TakesCutShort}
use Rattle.ice_serve.specs.Causes.{cause_by, first_cause, cause_of}
use Rattle.ice_serve.specs.Schedules.{IsScheduled, IsScheduledCut}
use Rattle.ice_serve.specs.declared.note.Why.{Why}
use Rattle.ice_serve.specs.declared.note.Why.TheVariants.{Okay, Read, Write, TooLong}

pub first-assoc : (a b c : Why) → first_cause a (first_cause b c) ≡ first_cause (first_cause a b) c
first-assoc Okay b c = refl
first-assoc Read b c = refl
first-assoc Write b c = refl
first-assoc TooLong b c = refl

pub first-okay : (a : Why) → first_cause a Okay ≡ a
first-okay Okay = refl
first-okay Read = refl
first-okay Write = refl
first-okay TooLong = refl

module _ (part : Chip) where
  -- one note more, with the cause that it brings
  scheduled_more : (notes : List Note) (note : Note) (s m t : Session) (h : IsSchedule true part notes s m) → Takes true part note m t →
      IsScheduled part (notes ++ note ∷ []) (first_cause (cause_of part notes s m h) (cause_by note (listens m.state.mode))) s t
  scheduled_more [] note s m t h takes = record {
    schedule = (t, subst (λ (x : Session). Takes true part note x t) h takes, refl);
    cause = first-okay (cause_by note (listens s.state.mode)) ∙
        ap (λ (x : Session). cause_by note (listens x.state.mode)) (sym h);
  }
  scheduled_more (one ∷ notes) note s m t h takes =
      let later = scheduled_more notes note h.0 m t h.2 takes in
      record {
        schedule = (h.0, h.1, later.schedule);
        cause = ap (first_cause (cause_by one (listens s.state.mode))) later.cause ∙
            first-assoc (cause_by one (listens s.state.mode)) (cause_of part notes h.0 m h.2) (cause_by note (listens m.state.mode));
      }

  pub is_scheduled_more : (notes : List Note) (note : Note) (why told : Why) (s m t : Session) → IsScheduled part notes why s m →
      Takes true part note m t → cause_by note (listens m.state.mode) ≡ told →
      IsScheduled part (notes ++ note ∷ []) (first_cause why told) s t
  is_scheduled_more notes note why told s m t h takes is =
      subst (λ (w : Why). IsScheduled part (notes ++ note ∷ []) (first_cause w told) s t) h.cause
      (subst (λ (w : Why). IsScheduled part (notes ++ note ∷ []) (first_cause (cause_of part notes s m h.schedule) w) s t) is
      (scheduled_more notes note s m t h.schedule takes))

  schedule_more : (notes : List Note) (note : Note) (s m t : Session) → IsSchedule true part notes s m → Takes true part note m t →
      IsSchedule true part (notes ++ note ∷ []) s t
  schedule_more notes note s m t h takes = (scheduled_more notes note s m t h takes).schedule

  -- the schedule is cut short in this note
  pub is_cut : (notes : List Note) (note : Note) (items : List Item) (s m cut t : Session) → IsScheduled part notes Okay s m →
      TakesCutShort true part note items m cut → t ≡ line_ended part cut → IsScheduledCut part (notes ++ note ∷ []) s t
  is_cut notes note items s m cut t h takes is = record {
    front = notes;
    note = note;
    items = items;
    more = [];
    whole = refl;
    schedule = record { there = m; cut = cut; first = h.schedule; takes = takes; later = is };
    cause = h.cause;
  }

  -- it was cut short before
  pub is_cut_more : (notes : List Note) (note : Note) (s m t : Session) → IsScheduledCut part notes s m → Takes true part note m t →
      IsScheduledCut part (notes ++ note ∷ []) s t
  is_cut_more notes note s m t h takes = record {
    front = h.front;
    note = h.note;
    items = h.items;
    more = h.more ++ note ∷ [];
    whole = ap (λ (l : List Note). l ++ note ∷ []) h.whole ∙ append_assoc h.front (h.note ∷ h.more) (note ∷ []);
    schedule = record {
      there = h.schedule.there;
      cut = h.schedule.cut;
      first = h.schedule.first;
      takes = h.schedule.takes;
      later = schedule_more h.more note (line_ended part h.schedule.cut) m t h.schedule.later takes;
    };
    cause = h.cause;
  }

  -- before any note
  pub none_scheduled : (s : Session) → IsScheduled part [] Okay s s
  none_scheduled s = record { schedule = refl; cause = refl }
