-- A chunk of bytes leads to one session only: it is cut and heard in one way.
use Rattle.std.proofs.Common.{◌≡◌, ℕ, Bool, true, false, List, [], ◌∷◌, ◌++◌, refl, sym, ◌∙◌, ap, ap₂, subst, arith, drop, append_assoc}
use Rattle.std.specs.Prelude.{Contains}
use Rattle.std.proofs.lemmas.Bool.{true≢false}
use Rattle.part_spec.specs.Chip.{Chip}
use Rattle.line_spec.specs.Frames.{Frame, IsPartial}
use Rattle.line_spec.specs.Cut.{Item, whole, junk, Cuts}
use Rattle.line_spec.specs.Messages.{Command, sign_off, get_sign_on, set_parameter, get_parameter, write_memory, read_memory, write_pc}
use Rattle.line_spec.specs.Messages.{read_pc, go, single_step, forced_stop, reset, set_device_descriptor, erase_page, get_sync, set_break}
use Rattle.line_spec.specs.Messages.{chip_erase, enter_programming, leave_programming, clear_break, run_to, clear_events, command_code}
use Rattle.line_spec.specs.Messages.{command_codes, IsCommandBody, HasCode}
use Rattle.line_spec.specs.Hearing.{Request, asks, unknown_code, wrong_length, IsRequest, Heard, request, dropped, Hears, HearsAll}
use Rattle.line_spec.proofs.Bodies.{one_command}
use Rattle.line_spec.proofs.FrameBytes.{same_begins}
use Rattle.line_spec.proofs.Cuts.{same_cut, no_junk_whole, no_junk_partial, no_partial_whole, Begins-more, IsJunk-more, Cuts-more}
use Rattle.debug_spec.specs.Debugger.{Debugger, listens, opened}
use Rattle.debug_spec.specs.Running.{launch_if_prepared}
use Rattle.debug_spec.specs.Commands.{heard_by, item_launched}
use Rattle.debug_spec.specs.Replay.{over_all}
use Rattle.debug_spec.specs.Schedule.{Session, heard_all, Holds, IsHeard}
use Rattle.debug_spec.specs.SessionLaws.{OneChunk, OneReplay, ChunksDivide}
use Rattle.debug_spec.proofs.Sessions.{EitherBy}
use Rattle.debug_spec.proofs.Chunks.{first_heard}

known_code : (command : Command) → Contains command_codes (command_code command)
known_code sign_off = (0, omega arith, refl)
known_code get_sign_on = (1, omega arith, refl)
known_code (set_parameter id value) = (2, omega arith, refl)
known_code (get_parameter id) = (3, omega arith, refl)
known_code (write_memory kind address bytes) = (4, omega arith, refl)
known_code (read_memory kind count address) = (5, omega arith, refl)
known_code (write_pc address) = (6, omega arith, refl)
known_code read_pc = (7, omega arith, refl)
known_code go = (8, omega arith, refl)
known_code single_step = (9, omega arith, refl)
known_code forced_stop = (10, omega arith, refl)
known_code reset = (11, omega arith, refl)
known_code (set_device_descriptor bytes) = (12, omega arith, refl)
known_code (erase_page address) = (13, omega arith, refl)
known_code get_sync = (14, omega arith, refl)
known_code (set_break kind number address) = (15, omega arith, refl)
known_code chip_erase = (16, omega arith, refl)
known_code enter_programming = (17, omega arith, refl)
known_code leave_programming = (18, omega arith, refl)
known_code (clear_break number address) = (19, omega arith, refl)
known_code (run_to address) = (20, omega arith, refl)
known_code clear_events = (21, omega arith, refl)

has_code : (command : Command) (body : List ℕ) → IsCommandBody command body → HasCode command_codes body
has_code command body belongs = subst (HasCode command_codes) (sym belongs.made) (known_code command)

-- a body asks one thing
pub one_request : (body : List ℕ) (a b : Request) → IsRequest body a → IsRequest body b → a ≡ b
one_request body (asks c) (asks d) h k = ap asks (one_command body c d h k)
one_request body (asks c) unknown_code h k = absurd (k (has_code c body h))
one_request body (asks c) wrong_length h k = absurd (k.1 c h)
one_request body unknown_code (asks d) h k = absurd (h (has_code d body k))
one_request body unknown_code unknown_code h k = refl
one_request body unknown_code wrong_length h k = absurd (h k.0)
one_request body wrong_length (asks d) h k = absurd (h.1 d k)
one_request body wrong_length unknown_code h k = absurd (k h.0)
one_request body wrong_length wrong_length h k = refl

-- an item is heard in one way
pub one_hearing : (item : Item) (a b : Heard) → Hears item a → Hears item b → a ≡ b
one_hearing (junk byte) a b h k = h ∙ sym k
one_hearing (whole frame) (request n r) (request m q) h k =
    ap₂ (λ (x : ℕ) (y : Request). request x y) (h.1 ∙ sym k.1) (one_request frame.body r q h.2 k.2)
one_hearing (whole frame) (request n r) (dropped count) h k = absurd (h.0 k.0)
one_hearing (whole frame) (dropped count) (request m q) h k = absurd (k.0 h.0)
one_hearing (whole frame) (dropped count) (dropped other) h k = ap dropped (h.1 ∙ sym k.1)

-- items are heard in one way
pub one_hearing_all : (items : List Item) (heard other : List Heard) → HearsAll items heard → HearsAll items other → heard ≡ other
one_hearing_all [] [] [] h k = refl
one_hearing_all [] [] (two ∷ other) h k = absurd k
one_hearing_all [] (one ∷ heard) other h k = absurd h
one_hearing_all (item ∷ items) [] other h k = absurd h
one_hearing_all (item ∷ items) (one ∷ heard) [] h k = absurd k
one_hearing_all (item ∷ items) (one ∷ heard) (two ∷ other) h k =
    ap₂ (λ (w : Heard) (t : List Heard). w ∷ t) (one_hearing item one two h.0 k.0) (one_hearing_all items heard other h.1 k.1)

pub one_replay : OneReplay
one_replay planted part stops prog device bytes end other h k =
    let same = same_cut bytes h.rest k.rest h.items k.items h.cut k.cut in
    let heard : h.heard ≡ k.heard =
    one_hearing_all h.items h.heard k.heard h.hears (subst (λ (items : List Item). HearsAll items k.heard) (sym same.0) k.hears) in
    h.is_end ∙ ap₂ (λ (t : List Heard) (rest : List ℕ). over_all planted part stops t rest (opened part prog device)) heard same.1 ∙
    sym k.is_end

module _ (planted : Bool) (part : Chip) where
  -- a debugger that does not listen stays as it is
  deaf_item : (one : Heard) (s : Debugger) → listens s.mode ≡ false → item_launched planted part one s ≡ s
  deaf_item one s deaf = ap (λ (b : Bool). elim b [ true ↦ launch_if_prepared (heard_by planted part one s) | false ↦ s ]) deaf

  pub deaf_all : (heard : List Heard) (s : Debugger) → listens s.mode ≡ false → heard_all planted part heard s ≡ s
  deaf_all [] s deaf = refl
  deaf_all (one ∷ heard) s deaf = ap (heard_all planted part heard) (deaf_item one s deaf) ∙ deaf_all heard s deaf

  abbrev HoldsAfter : List Heard → Debugger → List ℕ → List ℕ → Type 0
  HoldsAfter heard s behind held = Holds (listens (heard_all planted part heard s).mode) behind held

  same_held : (b : Bool) (y z held other : List ℕ) → y ≡ z → Holds b y held → Holds b z other → held ≡ other
  same_held true y z held other e h k = h.1 ∙ e ∙ sym k.1
  same_held false y z held other e h k = h ∙ sym k

  -- the bytes are cut into nothing, and into something: the debugger does not listen
  cut_short : (b : Bool) (item : Item) (bytes behind held : List ℕ) (items : List Item) → Cuts bytes (item ∷ items) behind →
      Holds b bytes held → b ≡ false
  cut_short false item bytes behind held items cuts holds = refl
  cut_short true (whole frame) bytes behind held items cuts holds = absurd (no_partial_whole bytes cuts.0 frame holds.0 cuts.1)
  cut_short true (junk byte) bytes behind held items cuts holds = absurd (no_junk_partial bytes cuts.2 holds.0)

  nothing_more : (item : Item) (bytes y z held other : List ℕ) (items : List Item) (more : List Heard) (s : Debugger) → bytes ≡ y →
      Cuts bytes (item ∷ items) z →
      Holds (listens s.mode) y held → HoldsAfter more s z other → (s ≡ heard_all planted part more s) × (held ≡ other)
  nothing_more item bytes y z held other items more s e cuts holds holds_more =
      let deaf : listens s.mode ≡ false =
      cut_short (listens s.mode) item bytes z held items cuts (subst (λ (x : List ℕ). Holds (listens s.mode) x held) (sym e) holds) in
      let same : heard_all planted part more s ≡ s = deaf_all more s deaf in
      let deaf_more : listens (heard_all planted part more s).mode ≡ false = ap (λ (t : Debugger). listens t.mode) same ∙ deaf in
      (sym same, subst (λ (b : Bool). Holds b y held) deaf holds ∙ sym (subst (λ (b : Bool). Holds b z other) deaf_more holds_more))

  one_way : (bytes y z held other : List ℕ) (items others : List Item) (heard more : List Heard) (s : Debugger) →
      Cuts bytes items y → Cuts bytes others z → HearsAll items heard → HearsAll others more → HoldsAfter heard s y held →
      HoldsAfter more s z other →
      (heard_all planted part heard s ≡ heard_all planted part more s) × (held ≡ other)
  one_way bytes y z held other [] [] [] [] s c d h k p q = (refl, same_held (listens s.mode) y z held other (sym c ∙ d) p q)
  one_way bytes y z held other [] [] [] (one ∷ more) s c d h k p q = absurd k
  one_way bytes y z held other [] [] (one ∷ heard) more s c d h k p q = absurd h
  one_way bytes y z held other [] (item ∷ others) (one ∷ heard) more s c d h k p q = absurd h
  one_way bytes y z held other [] (item ∷ others) [] more s c d h k p q = nothing_more item bytes y z held other others more s c d p q
  one_way bytes y z held other (item ∷ items) [] heard (one ∷ more) s c d h k p q = absurd k
  one_way bytes y z held other (item ∷ items) [] heard [] s c d h k p q =
      let found = nothing_more item bytes z y other held items heard s d c q p in (sym found.0, sym found.1)
  one_way bytes y z held other (item ∷ items) (also ∷ others) [] more s c d h k p q = absurd h
  one_way bytes y z held other (item ∷ items) (also ∷ others) (one ∷ heard) [] s c d h k p q = absurd k
  one_way bytes y z held other (whole frame ∷ items) (junk byte ∷ others) (one ∷ heard) (two ∷ more) s c d h k p q =
      absurd (no_junk_whole bytes c.0 frame d.2 c.1)
  one_way bytes y z held other (junk byte ∷ items) (whole frame ∷ others) (one ∷ heard) (two ∷ more) s c d h k p q =
      absurd (no_junk_whole bytes d.0 frame c.2 d.1)
  one_way bytes y z held other (whole frame ∷ items) (whole also ∷ others) (one ∷ heard) (two ∷ more) s c d h k p q =
      let same = same_begins bytes c.0 d.0 frame also c.1 d.1 in
      let same_heard : one ≡ two = one_hearing (whole frame) one two h.0 (subst (λ (f : Frame). Hears (whole f) two) (sym same.0) k.0) in
      let later = one_way c.0 y z held other items others heard more (item_launched planted part one s) c.2
      (subst (λ (t : List ℕ). Cuts t others z) (sym same.1) d.2) h.1 k.1 p
      (subst (λ (w : Heard). HoldsAfter more (item_launched planted part w s) z other) (sym same_heard) q) in
      (later.0 ∙ ap (λ (w : Heard). heard_all planted part more (item_launched planted part w s)) same_heard, later.1)
  one_way bytes y z held other (junk byte ∷ items) (junk also ∷ others) (one ∷ heard) (two ∷ more) s c d h k p q =
      let e : byte ∷ c.0 ≡ also ∷ d.0 = sym c.1 ∙ d.1 in
      let rests : c.0 ≡ d.0 = ap (λ (t : List ℕ). drop 1 t) e in
      let same_heard : one ≡ two = one_hearing (junk byte) one two h.0 k.0 in
      let later = one_way c.0 y z held other items others heard more (item_launched planted part one s) c.3
      (subst (λ (t : List ℕ). Cuts t others z) (sym rests) d.3) h.1 k.1 p
      (subst (λ (w : Heard). HoldsAfter more (item_launched planted part w s) z other) (sym same_heard) q) in
      (later.0 ∙ ap (λ (w : Heard). heard_all planted part more (item_launched planted part w s)) same_heard, later.1)

  -- the items behind others, and what they lead to
  record IsRest (bytes more y z : List ℕ) (first others : List Item) (before then_on : List Heard) (s : Debugger) : Type 0 where
    items : List Item
    heard : List Heard
    cuts : Cuts (y ++ more) items z
    hears : HearsAll items heard
    state : heard_all planted part then_on s ≡ heard_all planted part heard (heard_all planted part before s)

  later_rest : (bytes more y z : List ℕ) (item other : Item) (items others : List Item) (after : List ℕ) (one two : Heard)
      (heard then_on : List Heard) (s : Debugger) → two ≡ one →
      IsRest after more y z items others heard then_on (item_launched planted part one s) →
      IsRest bytes more y z (item ∷ items) (other ∷ others) (one ∷ heard) (two ∷ then_on) s
  later_rest bytes more y z item other items others after one two heard then_on s same r = record {
    items = r.items;
    heard = r.heard;
    cuts = r.cuts;
    hears = r.hears;
    state = ap (λ (w : Heard). heard_all planted part then_on (item_launched planted part w s)) same ∙ r.state;
  }

  -- what is cut behind some bytes that are cut into items up to less than a frame
  rest_cut : (bytes more y z : List ℕ) (items others : List Item) (heard then_on : List Heard) (s : Debugger) → Cuts bytes items y →
      IsPartial y →
      listens (heard_all planted part heard s).mode ≡ true → HearsAll items heard → Cuts (bytes ++ more) others z →
      HearsAll others then_on →
      (held : List ℕ) → HoldsAfter then_on s z held → IsRest bytes more y z items others heard then_on s
  rest_cut bytes more y z [] others [] then_on s c partial listening h d k held holds = record {
    items = others;
    heard = then_on;
    cuts = subst (λ (x : List ℕ). Cuts (x ++ more) others z) c d;
    hears = k;
    state = refl;
  }
  rest_cut bytes more y z [] others (one ∷ heard) then_on s c partial listening h d k held holds = absurd h
  rest_cut bytes more y z (item ∷ items) others [] then_on s c partial listening h d k held holds = absurd h
  rest_cut bytes more y z (item ∷ items) [] (one ∷ heard) (two ∷ then_on) s c partial listening h d k held holds = absurd k
  rest_cut bytes more y z (item ∷ items) [] (one ∷ heard) [] s c partial listening h d k held holds =
      let longer : Cuts (bytes ++ more) (item ∷ items) (y ++ more) = Cuts-more bytes more y (item ∷ items) c in
      let deaf : listens s.mode ≡ false =
      cut_short (listens s.mode) item (bytes ++ more) (y ++ more) held items longer
      (subst (λ (x : List ℕ). Holds (listens s.mode) x held) (sym d) holds) in
      absurd (true≢false (sym listening ∙ ap (λ (t : Debugger). listens t.mode) (deaf_all (one ∷ heard) s deaf) ∙ deaf))
  rest_cut bytes more y z (item ∷ items) (other ∷ others) (one ∷ heard) [] s c partial listening h d k held holds = absurd k
  rest_cut bytes more y z (whole frame ∷ items) (junk byte ∷ others) (one ∷ heard) (two ∷ then_on) s c partial listening h d k held holds =
      absurd (no_junk_whole (bytes ++ more) (c.0 ++ more) frame d.2 (Begins-more bytes c.0 more frame c.1))
  rest_cut bytes more y z (junk byte ∷ items) (whole frame ∷ others) (one ∷ heard) (two ∷ then_on) s c partial listening h d k held holds =
      absurd (no_junk_whole (bytes ++ more) d.0 frame (IsJunk-more bytes more c.2) d.1)
  rest_cut bytes more y z (whole frame ∷ items) (whole also ∷ others) (one ∷ heard) (two ∷ then_on) s c partial listening h d k held holds =
      let same = same_begins (bytes ++ more) (c.0 ++ more) d.0 frame also (Begins-more bytes c.0 more frame c.1) d.1 in
      let same_heard : two ≡ one = one_hearing (whole frame) two one (subst (λ (f : Frame). Hears (whole f) two) (sym same.0) k.0) h.0 in
      later_rest bytes more y z (whole frame) (whole also) items others c.0 one two heard then_on s same_heard
      (rest_cut c.0 more y z items others heard then_on (item_launched planted part one s) c.2 partial listening h.1
      (subst (λ (t : List ℕ). Cuts t others z) (sym same.1) d.2) k.1 held
      (subst (λ (w : Heard). HoldsAfter then_on (item_launched planted part w s) z held) same_heard holds))
  rest_cut bytes more y z (junk byte ∷ items) (junk also ∷ others) (one ∷ heard) (two ∷ then_on) s c partial listening h d k held holds =
      let e : byte ∷ (c.0 ++ more) ≡ also ∷ d.0 = sym (ap (λ (t : List ℕ). t ++ more) c.1) ∙ d.1 in
      let rests : c.0 ++ more ≡ d.0 = ap (λ (t : List ℕ). drop 1 t) e in
      let same_heard : two ≡ one = one_hearing (junk byte) two one k.0 h.0 in
      later_rest bytes more y z (junk byte) (junk also) items others c.0 one two heard then_on s same_heard
      (rest_cut c.0 more y z items others heard then_on (item_launched planted part one s) c.3 partial listening h.1
      (subst (λ (t : List ℕ). Cuts t others z) (sym rests) d.3) k.1 held
      (subst (λ (w : Heard). HoldsAfter then_on (item_launched planted part w s) z held) same_heard holds))

  one_heard : (bytes : List ℕ) (before after other : Session) → IsHeard planted part bytes before after →
      IsHeard planted part bytes before other → after ≡ other
  one_heard bytes before after other h k =
      let found = one_way (before.held ++ bytes) h.behind k.behind after.held other.held h.items k.items h.heard k.heard before.state h.cuts
      k.cuts h.hears k.hears
      (subst (λ (t : Debugger). Holds (listens t.mode) h.behind after.held) h.state h.holds)
      (subst (λ (t : Debugger). Holds (listens t.mode) k.behind other.held) k.state k.holds) in
      ap₂ (λ (t : Debugger) (x : List ℕ). record { held = x; state = t }) (h.state ∙ found.0 ∙ sym k.state) found.1

  one_by : (bytes : List ℕ) (before after other : Session) (b : Bool) →
      EitherBy b (IsHeard planted part bytes before after) (after ≡ before) →
      EitherBy b (IsHeard planted part bytes before other) (other ≡ before) → after ≡ other
  one_by bytes before after other true h k = one_heard bytes before after other h k
  one_by bytes before after other false h k = h ∙ sym k

pub one_chunk : OneChunk
one_chunk planted part bytes before after other h k = one_by planted part bytes before after other (listens before.state.mode) h k

-- where the first part of a chunk was heard, the second is heard from there
module _ (planted : Bool) (part : Chip) (first second : List ℕ) (before between after : Session) where
  divided_heard : (one : IsHeard planted part first before between) → listens between.state.mode ≡ true →
      IsHeard planted part (first ++ second) before after →
      IsHeard planted part second between after
  divided_heard one listening all =
      let kept = subst (λ (b : Bool). Holds b one.behind between.held) listening one.holds in
      let rest = rest_cut planted part (before.held ++ first) second one.behind all.behind one.items all.items one.heard all.heard
      before.state one.cuts kept.0
      (ap (λ (t : Debugger). listens t.mode) (sym one.state) ∙ listening) one.hears
      (subst (λ (x : List ℕ). Cuts x all.items all.behind) (sym (append_assoc before.held first second)) all.cuts) all.hears after.held
      (subst (λ (t : Debugger). Holds (listens t.mode) all.behind after.held) all.state all.holds) in
      record {
        items = rest.items;
        behind = all.behind;
        heard = rest.heard;
        cuts = subst (λ (x : List ℕ). Cuts (x ++ second) rest.items all.behind) (sym kept.1) rest.cuts;
        hears = rest.hears;
        state = all.state ∙ rest.state ∙ ap (heard_all planted part rest.heard) (sym one.state);
        holds = all.holds;
      }

  -- and where the debugger listens no more behind it, the second part changes nothing
  divided_deaf : IsHeard planted part first before between → listens between.state.mode ≡ false →
      IsHeard planted part (first ++ second) before after → after ≡ between
  divided_deaf one deaf all =
      sym (one_heard planted part (first ++ second) before between after
      (first_heard planted part first second before between between one deaf
      (subst (λ (b : Bool). Holds b one.behind between.held) deaf one.holds) refl) all)

  divides : (a : Bool) → listens before.state.mode ≡ a → (b : Bool) → listens between.state.mode ≡ b →
      EitherBy a (IsHeard planted part first before between) (between ≡ before) →
      EitherBy a (IsHeard planted part (first ++ second) before after) (after ≡ before) →
      EitherBy b (IsHeard planted part second between after) (after ≡ between)
  divides true at_first true at_second one all = divided_heard one at_second all
  divides true at_first false at_second one all = divided_deaf one at_second all
  divides false at_first true at_second one all =
      absurd (true≢false (sym at_second ∙ ap (λ (x : Session). listens x.state.mode) one ∙ at_first))
  divides false at_first false at_second one all = all ∙ sym one

pub chunks_divide : ChunksDivide
chunks_divide planted part first second before between after one all =
    divides planted part first second before between after (listens before.state.mode) refl (listens between.state.mode) refl one all
