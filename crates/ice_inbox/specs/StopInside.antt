-- What the fields of the ends of a stop word stand for.
use Rattle.std.specs.Prelude.{◌≡◌, ℕ, List, [], IfSome, is_none}
use Rattle.std.specs.Arc.{arc_value}
use Rattle.ice_inbox.specs.declared.stop_word.Side.{Side}
use Rattle.ice_inbox.specs.declared.stop_word.Side.TheVariants.{Raiser, Looker, Spent}
use Rattle.ice_inbox.specs.declared.stop_word.StopRaiser.TheInside as raiser
use Rattle.ice_inbox.specs.declared.stop_word.StopLooker.TheInside as looker
use Rattle.ice_inbox.specs.Stopping.{Raising, Looking}

abbrev pub raised_by : Side → List ℕ
raised_by (Raiser raised kept) = raised
raised_by (Looker seen loads) = []
raised_by Spent = []

abbrev pub seen_by : Side → ℕ
seen_by (Raiser raised kept) = 0
seen_by (Looker seen loads) = seen
seen_by Spent = 0

abbrev pub loads_by : Side → ℕ
loads_by (Raiser raised kept) = 0
loads_by (Looker seen loads) = loads
loads_by Spent = 0

abbrev pub IsRaiserSide : Side → Type 0
IsRaiserSide (Raiser raised kept) = Unit {0}
IsRaiserSide (Looker seen loads) = ⊥
IsRaiserSide Spent = ⊥

abbrev pub IsLookerSide : Side → Type 0
IsLookerSide (Raiser raised kept) = ⊥
IsLookerSide (Looker seen loads) = Unit {0}
IsLookerSide Spent = ⊥

abbrev pub raising_of : raiser.Inside → Raising
raising_of r = record { word = r.seat.table_id; raised = raised_by r.seat.me.0; is_out = is_none r.spare }

abbrev pub looking_of : looker.Inside → Looking
looking_of l = record { word = l.seat.table_id; seen = seen_by l.seat.me.0; loads = loads_by l.seat.me.0; asked = l.asked }

-- the seat is the raiser's at the word, and so is the looker's end
pub record IsRaiser (r : raiser.Inside) : Type 0 where
  pub side : IsRaiserSide r.seat.me.0
  pub at : r.seat.table_id ≡ (arc_value r.word).shared.table_id
  pub one : r.seat.table_id.words ≡ 1
  pub spare : IfSome r.spare (λ word. (arc_value word).shared.table_id ≡ r.seat.table_id)

-- the seat is a looker's at the word
pub record IsLooker (l : looker.Inside) : Type 0 where
  pub side : IsLookerSide l.seat.me.0
  pub empty : l.seat.me.1 ≡ []
  pub at : (arc_value l.word).shared.table_id ≡ l.seat.table_id
  pub one : l.seat.table_id.words ≡ 1
