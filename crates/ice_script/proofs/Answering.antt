-- What is sent for a command is answered as a debugger does: the wire has room for the answer, and the command is heard at once.
use Rattle.std.proofs.Common.{◌≡◌, ℕ, ◌+◌, ◌<◌, ◌≤◌, Bool, true, false, List, [], ◌∷◌, ◌++◌, length, take, drop, refl, sym, ◌∙◌, ap}
use Rattle.std.proofs.Common.{subst, arith, ◌⊎◌, inl, inr, append-nil, length-append, length-take, Some}
use Rattle.std.specs.Prelude.{Result, Ok, Err, ⊤, ◌&&◌, nat_le}
use Rattle.std.specs.List.{flat_map}
use Rattle.std.proofs.lemmas.Bool.{true≢false, le-leb}
use Rattle.std.proofs.lemmas.List.{take-append-drop}
use Rattle.std.proofs.lemmas.List.Concat.{flat_map-append}
use Rattle.part_spec.specs.declared.part.Part.{Part}
use Rattle.part_spec.specs.Chip.{Chip, chip_of}
use Rattle.line_spec.specs.Frames.{Frame, IsFrame, IsPartial, bytes_of, body_limit}
use Rattle.line_spec.specs.Messages.{Command, IsCommand, command_body, ignored_written}
use Rattle.line_spec.specs.Hearing.{Heard, request, asks, event_number}
use Rattle.line_spec.proofs.Cuts.{no_partial_whole}
use Rattle.line_spec.proofs.FrameBytes.{length-bytes_of}
use Rattle.debug_spec.specs.Device.{Asked}
use Rattle.debug_spec.specs.Moved.{Flash}
use Rattle.debug_spec.specs.Debugger.{Mode, stopped, launching, running, programming, leaving, closed, Debugger, listens}
use Rattle.debug_spec.specs.Replay.{over, bytes_sent}
use Rattle.debug_spec.specs.Schedule.{Session, Keeps, line_ended}
use Rattle.debug_spec.specs.Take.{goes_on}
use Rattle.debug_spec.specs.TakeReplays.{IsReplayed, settled_then}
use Rattle.debug_spec.specs.Carries.{Along}
use Rattle.debug_spec.proofs.Soundness.{reply}
use Rattle.flash_patch.specs.declared.plan.FlashFault.{FlashFault}
use Rattle.run_control.specs.declared.job.Job.{Job}
use Rattle.host_session.specs.Words.{Sent}
use Rattle.host_session.specs.Calls.{command_bytes}
use Rattle.ice_base.specs.Counts.{Rose}
use Rattle.ice_answer.specs.Kept.{ToolState}
use Rattle.ice_replay.specs.Keeping.{Place, place, IsKept, Stands}
use Rattle.ice_replay.specs.Steps.{Continues}
use Rattle.ice_replay.specs.Lines.{WritesBehind, WritesPast}
use Rattle.ice_replay.specs.Replaying.{ClosesWhile, IsCut}
use Rattle.ice_replay.specs.Chunks.{ChunkEnds}
use Rattle.ice_replay.specs.Endings.{is_closed}
use Rattle.ice_replay.specs.declared.chunk.Chunk.{Chunk}
use Rattle.ice_replay.specs.declared.chunk.Chunk.TheVariants.{Taken, Closed as Closes, Unsent}
use Rattle.ice_replay.proofs.Going.{onward, weaker as lighter}
use Rattle.ice_replay.proofs.Chunking.{joined_step}
use Rattle.ice_replay.proofs.LineEnding.{deaf}
use Rattle.script_laws.specs.Waiting.{AreShort, stream}
use Rattle.script_laws.specs.Following.{AnswersBy}
use Rattle.script_laws.proofs.Lines.{Answering}
use Rattle.script_laws.proofs.Replies.{request_answered}
use Rattle.script_laws.proofs.Valid.{short_fits, told_events, events_size}
use Rattle.ice_script.specs.Queue.{Waiting, faults_if, queue_faults}
use Rattle.ice_script.specs.Wires.{Side, WireState, Becomes, IsTakenSo, LineEndsThen, TakesPiece, takes, waiting, wire_words}
use Rattle.ice_script.proofs.OneFrame.{framed, framed_bytes, framed_valid, framed_heard, HearsIt, HearsNone, it_or_none}
use Rattle.ice_script.proofs.Ways.{Empty, Moves, Way, IsOn, Seen, frame_limit, SendsIf, place_of, seen_so, still_way}

-- nothing is lost
abbrev pub Good : {F : Type 0} → WireState F → Type 0
Good w = w.lost ≡ false

both : (p q : Bool) → p ≡ true → q ≡ true → (p && q) ≡ true
both true q h k = k
both false q h k = absurd (true≢false (sym h))

first_of : (p q : Bool) → (p && q) ≡ true → p ≡ true
first_of true q h = refl
first_of false q h = absurd (true≢false (sym h))

listens_on : (m : Mode) → listens m ≡ true → goes_on m ≡ true
listens_on stopped h = refl
listens_on (launching number) h = refl
listens_on running h = refl
listens_on programming h = refl
listens_on leaving h = absurd (true≢false (sym h))
listens_on (closed restored) h = absurd (true≢false (sym h))

pub closed_deaf : (m : Mode) → is_closed m ≡ true → listens m ≡ false
closed_deaf stopped h = absurd (true≢false (sym h))
closed_deaf (launching number) h = absurd (true≢false (sym h))
closed_deaf running h = absurd (true≢false (sym h))
closed_deaf programming h = absurd (true≢false (sym h))
closed_deaf leaving h = absurd (true≢false (sym h))
closed_deaf (closed restored) h = refl

pub kept_true : (b : Bool) (behind held : List ℕ) → Keeps b behind held → b ≡ true → held ≡ behind
kept_true true behind held k h = k
kept_true false behind held k h = absurd (true≢false (sym h))

-- only a put that failed raises the count of the queue
rose_full : (x : ℕ) (full : Bool) → Rose x (faults_if full) → full ≡ true
rose_full x true r = refl
rose_full x false r = absurd (omega (arith, r))

module _ {F : Type 0} (flash : Flash F) (part_of : F → Part) (number : ℕ) (command : Command) (valid : IsCommand command)
    (size : length (command_body command (ignored_written command)) ≤ body_limit) (a : WireState F) where
  abbrev piece : List ℕ
  piece = command_bytes number command

  abbrev chip : Chip
  chip = chip_of a.side.emulator.tool.plan.part

  abbrev stops : List ℕ
  stops = a.side.runner.stops.items

  piece_length : length piece ≤ frame_limit
  piece_length = omega (
    arith,
    ap length (framed_bytes number command),
    length-bytes_of (framed number command),
    size,
  )

  abbrev Answers : WireState F → Debugger → Debugger → Type 0
  Answers b = Answering waiting Good chip stops number command a b

  -- where the emulator stands for a session it listens as that does
  same_mode : (w : WireState F) (job : Job F) (pend : List Asked) (s : Session) → Stands flash (place_of w job pend) s →
      w.side.emulator.tool.mode ≡ s.state.mode
  same_mode w job pend s stands = ap (λ (k : ToolState). k.mode) stands.stands.tool

  -- a piece that is not taken
  refused : (part : Chip) (its : List ℕ) → takes a piece ≡ false →
      Way flash part_of part its a a (Answering waiting Good part its number command a a)
  refused part its none = still_way flash part_of part its a a (Answering waiting Good part its number command a a)
      (record { emulator = refl; runner = refl; allowed = refl; lost = refl }) (λ s job pend stands enough. record {
        answered = λ small listening short little. absurd (true≢false (sym (both (listens a.side.emulator.tool.mode)
            (nat_le (length piece) a.allowed) (ap listens (same_mode a job pend s stands) ∙ listening)
            (le-leb (length piece) a.allowed (omega (arith, piece_length, enough)))) ∙ none));
      })

  -- the line ends behind what this side took
  abbrev Line_of : Side F → Session → Session → Type 0
  Line_of mid s t =
      let part = chip_of mid.emulator.tool.plan.part in
      t.state ≡ (settled_then true part mid.runner.stops.items (line_ended part s)).state

  module _ (b : WireState F) (tp : TakesPiece flash part_of a.side piece b.side b.lost) (spent : b.allowed + length piece ≡ a.allowed)
      (on_a : listens a.side.emulator.tool.mode ≡ true) where
    its_frame : IsFrame (framed number command)
    its_frame = framed_valid number command size tp.valid

    -- what is sent for it is a reply and at most two events, or nothing
    out_small : (s t : Session) (out : List ℕ) → bytes_sent t.state ≡ bytes_sent s.state ++ out → listens s.state.mode ≡ true →
        AreShort s.state.parameters →
        (t.state ≡ over true chip stops (request number (asks command) ∷ []) s.state) ⊎ (t.state ≡ s.state) → length out ≤ 4148
    out_small s t out sends listening short (inl is) =
        let n = request_answered true chip stops number command s.state listening in
        omega (
          arith,
          ap length sends,
          length-append (bytes_sent s.state) out,
          ap (λ (d : Debugger). length (bytes_sent d)) is,
          ap (λ (frames : List Frame). length (flat_map bytes_of frames)) n.sent,
          ap length (flat_map-append bytes_of s.state.sent (reply number n.response ∷ n.events)),
          length-append (bytes_sent s.state) (stream (reply number n.response ∷ n.events)),
          length-append (bytes_of (reply number n.response)) (stream n.events),
          length-bytes_of (reply number n.response),
          short_fits n.response (n.short short),
          events_size n.events (told_events n.events n.each),
          n.few,
        )
    out_small s t out sends listening short (inr is) = omega (
      arith,
      ap length sends,
      length-append (bytes_sent s.state) out,
      ap (λ (d : Debugger). length (bytes_sent d)) is,
    )

    -- so there is room for it
    never_full : (out some : List ℕ) → length (waiting a) ≤ 32 → length out ≤ 4148 → length some ≤ length out →
        waiting b ≡ waiting a ++ some → Rose (queue_faults a.side.queue) (queue_faults b.side.queue) → ⊥
    never_full out some little small within is rose = omega (
      arith,
      tp.full (rose_full (queue_faults a.side.queue) b.side.queue.full rose),
      ap length is,
      length-append (waiting a) some,
      little,
      small,
      within,
    )

    -- a front of the piece is replayed, in a session for which the wire stood
    module _ (bytes rest : List ℕ) (split : bytes ++ rest ≡ piece) (s t : Session) (job : Job F) (pend : List Asked) (at : Place F)
        (out : List ℕ) (empty : Empty s) (seen : Seen flash (IsReplayed true chip stops bytes) (place_of a job pend) out at s t) where
      s_listens : listens s.state.mode ≡ true
      s_listens = ap listens (sym (same_mode a job pend s seen.from)) ∙ on_a

      t_mode : t.state.mode ≡ at.emulator.tool.mode
      t_mode = sym (ap (λ (k : ToolState). k.mode) seen.to.stands.tool)

      heard_or_none : HearsIt chip stops (framed number command) bytes rest s t seen.goes.behind ⊎
          HearsNone chip stops (framed number command) bytes rest s t seen.goes.behind
      heard_or_none = it_or_none chip stops (framed number command) bytes rest s t its_frame (split ∙ framed_bytes number command)
          (empty s_listens) seen.goes

      over_it : number < event_number →
          HearsIt chip stops (framed number command) bytes rest s t seen.goes.behind →
          t.state ≡ over true chip stops (request number (asks command) ∷ []) s.state
      over_it small it =
          it.state ∙ ap (λ (h : Heard). over true chip stops (h ∷ []) s.state) (framed_heard number command it.heard valid small it.hears)

      answers_so : number < event_number → HearsIt chip stops (framed number command) bytes rest s t seen.goes.behind →
          waiting b ≡ waiting a ++ out → b.lost ≡ false →
          (t.state ≡ over true chip stops (request number (asks command) ∷ []) s.state) × AnswersBy waiting a b s.state t.state × Good b
      answers_so small it waits good =
          (over_it small it, record { out = out; waits_then = waits; sent = seen.sends; bytes = tp.bytes }, good)

      small_out : number < event_number → AreShort s.state.parameters → length out ≤ 4148
      small_out small short = by_heard heard_or_none
        where
          by_heard : HearsIt chip stops (framed number command) bytes rest s t seen.goes.behind ⊎
              HearsNone chip stops (framed number command) bytes rest s t seen.goes.behind → length out ≤ 4148
          by_heard (inl it) = out_small s t out seen.sends s_listens short (inl (over_it small it))
          by_heard (inr none) = out_small s t out seen.sends s_listens short (inr none.state)

      -- where the session is closed the frame was heard
      heard_closed : listens t.state.mode ≡ false → HearsIt chip stops (framed number command) bytes rest s t seen.goes.behind
      heard_closed off = by_heard heard_or_none
        where
          by_heard : HearsIt chip stops (framed number command) bytes rest s t seen.goes.behind ⊎
              HearsNone chip stops (framed number command) bytes rest s t seen.goes.behind →
              HearsIt chip stops (framed number command) bytes rest s t seen.goes.behind
          by_heard (inl it) = it
          by_heard (inr none) =
              absurd (true≢false (sym s_listens ∙ ap (λ (d : Debugger). listens d.mode) (sym none.state) ∙ off))

      -- and where less than a frame is held behind the whole piece
      heard_whole : listens at.emulator.tool.mode ≡ true → IsPartial at.emulator.receiver.held → rest ≡ [] →
          HearsIt chip stops (framed number command) bytes rest s t seen.goes.behind
      heard_whole on partial none_left = by_heard heard_or_none
        where
          t_on : listens t.state.mode ≡ true
          t_on = ap listens t_mode ∙ on

          held_is : seen.goes.behind ≡ at.emulator.receiver.held
          held_is = sym (kept_true (listens t.state.mode) seen.goes.behind t.held seen.goes.keeps t_on) ∙
              kept_true (goes_on t.state.mode) at.emulator.receiver.held t.held seen.to.stands.held (listens_on t.state.mode t_on)

          by_heard : HearsIt chip stops (framed number command) bytes rest s t seen.goes.behind ⊎
              HearsNone chip stops (framed number command) bytes rest s t seen.goes.behind →
              HearsIt chip stops (framed number command) bytes rest s t seen.goes.behind
          by_heard (inl it) = it
          by_heard (inr none) = absurd (no_partial_whole seen.goes.behind rest (framed number command)
              (subst IsPartial (sym held_is) partial) (record {
                valid = its_frame;
                split = sym (append-nil seen.goes.behind) ∙ ap (λ (l : List ℕ). seen.goes.behind ++ l) (sym none_left) ∙ none.all ∙
                    sym (append-nil (bytes_of (framed number command))) ∙
                    ap (λ (l : List ℕ). bytes_of (framed number command) ++ l) (sym none_left);
              }))

      empty_whole : rest ≡ [] → HearsIt chip stops (framed number command) bytes rest s t seen.goes.behind → Empty t
      empty_whole none_left it listening =
          kept_true (listens t.state.mode) seen.goes.behind t.held seen.goes.keeps listening ∙ sym (append-nil seen.goes.behind) ∙
          ap (λ (l : List ℕ). seen.goes.behind ++ l) (sym none_left) ∙ it.nothing

    abbrev Made : Session → Session → Type 0
    Made = Moves flash part_of chip stops b (Answers b)

    -- all of the piece is taken, and the session goes on
    whole_way : (job : Job F) (pend : List Asked) → b.lost ≡ false →
        ChunkEnds flash part_of Taken (place_of a job pend) piece (Some (waiting a)) (Some (waiting b)) (queue_faults a.side.queue)
        (queue_faults b.side.queue) b.side.emulator b.side.runner →
        (out : List ℕ) × Continues flash part_of Made (place_of a job pend) out b.side.emulator b.side.runner
    whole_way job pend good e =
        let at = place_of b e.1.job e.1.pend in (
          e.0,
          record {
            job = e.1.job;
            pend = e.1.pend;
            kept = e.1.kept;
            goes = lighter flash (Seen flash (IsReplayed true chip stops piece) (place_of a job pend) e.0 at) Made (place_of a job pend) at e.0
                (λ s t seen. record {
                  empty = λ empty. empty_whole piece [] (append-nil piece) s t job pend at e.0 empty seen refl
                      (heard_whole piece [] (append-nil piece) s t job pend at e.0 empty seen e.3 e.4 refl);
                  does = λ empty enough. record {
                    answered = λ small listening short little. answers_so piece [] (append-nil piece) s t job pend at e.0 empty seen small
                        (heard_whole piece [] (append-nil piece) s t job pend at e.0 empty seen e.3 e.4 refl) e.2.0 good;
                  };
                })
                (seen_so flash (IsReplayed true chip stops piece) (place_of a job pend) at e.0 e.1.goes);
          },
        )

    mode_deaf : (at : Place F) (s t : Session) → t.state.mode ≡ at.emulator.tool.mode → listens at.emulator.tool.mode ≡ false →
        listens t.state.mode ≡ false
    mode_deaf at s t same off = ap listens same ∙ off

    empty_deaf : (t : Session) → listens t.state.mode ≡ false → Empty t
    empty_deaf t off listening = absurd (true≢false (sym listening ∙ off))

    -- what was written behind the end of a session is all, as there is room for it
    written_all : (was_out late : Bool) (restored : Result ⊤ FlashFault) (out : List ℕ) → length (waiting a) ≤ 32 → length out ≤ 4148 →
        WritesBehind was_out late restored (Some (waiting a)) (Some (waiting b)) (queue_faults a.side.queue) (queue_faults b.side.queue) out →
        waiting b ≡ waiting a ++ out
    written_all was_out late (Ok restored) out little small w = w.0
    written_all was_out false (Err fault) out little small w = w.0
    written_all was_out true (Err fault) out little small w =
        absurd (never_full out (take w.0.0.0 out) little small (omega (arith, length-take w.0.0.0 out)) w.0.0.1 w.0.1)

    -- the session is closed with it
    closing_way : (restored : Result ⊤ FlashFault) (job : Job F) (pend : List Asked) → b.lost ≡ false →
        ChunkEnds flash part_of (Closes restored) (place_of a job pend) piece (Some (waiting a)) (Some (waiting b))
        (queue_faults a.side.queue) (queue_faults b.side.queue) b.side.emulator b.side.runner →
        (out : List ℕ) × Continues flash part_of Made (place_of a job pend) out b.side.emulator b.side.runner
    closing_way restored job pend good e =
        let front : List ℕ = take e.0 piece in
        let rest : List ℕ = drop e.0 piece in
        let split : front ++ rest ≡ piece = take-append-drop e.0 piece in
        let at = place_of b e.4.job e.4.pend in
        let off : listens b.side.emulator.tool.mode ≡ false = ap listens e.6 in
        let Closed_so : Session → Session → Type 0 = Seen flash (ClosesWhile e.2 chip stops front) (place_of a job pend) e.1 at in (
          e.1,
          record {
            job = e.4.job;
            pend = e.4.pend;
            kept = e.4.kept;
            goes = lighter flash Closed_so Made (place_of a job pend) at e.1
                (λ s t w.
                let seen : Seen flash (IsReplayed true chip stops front) (place_of a job pend) e.1 at s t =
                record { goes = w.goes.replayed; from = w.from; to = w.to; sends = w.sends } in
                let t_off : listens t.state.mode ≡ false =
                ap listens (sym (ap (λ (k : ToolState). k.mode) w.to.stands.tool)) ∙ off in
                record {
                  empty = λ empty. empty_deaf t t_off;
                  does = λ empty enough. record {
                    answered = λ small listening short little.
                        let it = heard_closed front rest split s t job pend at e.1 empty seen t_off in
                        let few = small_out front rest split s t job pend at e.1 empty seen small short in
                        answers_so front rest split s t job pend at e.1 empty seen small it
                        (written_all e.2 e.3 restored e.1 little few e.5) good;
                  };
                })
                (seen_so flash (ClosesWhile e.2 chip stops front) (place_of a job pend) at e.1 e.4.goes);
          },
        )

    -- what had no room does not come to pass where little waited
    cut_absurd : (n : ℕ) (ahead more : List ℕ) (s t : Session) (job : Job F) (pend : List Asked) (at : Place F) → Empty s →
        Seen flash (IsCut chip stops (take n piece) ahead) (place_of a job pend) (ahead ++ more) at s t →
        WritesPast (Some (waiting a)) (Some (waiting b)) (queue_faults a.side.queue) (queue_faults b.side.queue) ahead more →
        number < event_number → AreShort s.state.parameters → length (waiting a) ≤ 32 → ⊥
    cut_absurd n ahead more s t job pend at empty w past small short little =
        let c = w.goes.completes in
        let whole_front : IsReplayed true chip stops (c.first ++ c.used) s t =
        joined_step _ chip stops c.first c.used c.left s t (c.middle, c.replayed, c.step) in
        let seen : Seen flash (IsReplayed true chip stops (take n piece)) (place_of a job pend) (ahead ++ more) at s t = record {
          goes = subst (λ (l : List ℕ). IsReplayed true chip stops l s t) (sym c.split) whole_front;
          from = w.from;
          to = w.to;
          sends = w.sends;
        } in
        let few = small_out (take n piece) (drop n piece) (take-append-drop n piece) s t job pend at (ahead ++ more) empty seen small short in
        never_full (ahead ++ more) (ahead ++ take past.0.0 more) little few
        (omega (arith, length-append ahead (take past.0.0 more), length-append ahead more, length-take past.0.0 more)) past.0.1 past.1

    -- it is closed, and the answer had no room
    lost_way : (job : Job F) (pend : List Asked) →
        ChunkEnds flash part_of (Unsent true) (place_of a job pend) piece (Some (waiting a)) (Some (waiting b))
        (queue_faults a.side.queue) (queue_faults b.side.queue) b.side.emulator b.side.runner →
        (out : List ℕ) × Continues flash part_of Made (place_of a job pend) out b.side.emulator b.side.runner
    lost_way job pend e =
        let at = place_of b e.3.job e.3.pend in
        let Cut_so : Session → Session → Type 0 =
        Seen flash (IsCut chip stops (take e.0 piece) e.1) (place_of a job pend) (e.1 ++ e.2) at in (
          e.1 ++ e.2,
          record {
            job = e.3.job;
            pend = e.3.pend;
            kept = e.3.kept;
            goes = lighter flash Cut_so Made (place_of a job pend) at (e.1 ++ e.2)
                (λ s t w.
                let t_off : listens t.state.mode ≡ false =
                ap listens (sym (ap (λ (k : ToolState). k.mode) w.to.stands.tool)) ∙ ap listens e.5.1 in
                record {
                  empty = λ empty. empty_deaf t t_off;
                  does = λ empty enough. record {
                    answered = λ small listening short little.
                        absurd (cut_absurd e.0 e.1 e.2 s t job pend at empty w e.4 small short little);
                  };
                })
                (seen_so flash (IsCut chip stops (take e.0 piece) e.1) (place_of a job pend) at (e.1 ++ e.2) e.3.goes);
          },
        )

    -- it is not, and so the line ends
    cut_way : (mid : Side F) → mid.queue ≡ b.side.queue → (job : Job F) (pend : List Asked) → IsKept flash part_of (place_of a job pend) →
        IsTakenSo flash part_of (Unsent false) a.side piece mid → LineEndsThen flash part_of mid b.side →
        (out : List ℕ) × Continues flash part_of Made (place_of a job pend) out b.side.emulator b.side.runner
    cut_way mid same job pend kept taken ends =
        let e = taken job pend kept in
        let at = place mid.emulator mid.runner e.3.job e.3.pend in
        let line = ends e.3.job e.3.pend e.3.kept in
        let last = place_of b line.job line.pend in
        let past : WritesPast (Some (waiting a)) (Some (waiting b)) (queue_faults a.side.queue) (queue_faults b.side.queue) e.1 e.2 =
        subst (λ (q : Waiting). WritesPast (Some (waiting a)) (Some q.bytes) (queue_faults a.side.queue) (queue_faults q) e.1 e.2) same e.4 in
        let mid_chip : Chip = chip_of mid.emulator.tool.plan.part in
        let Cut_so : Session → Session → Type 0 =
        Seen flash (IsCut chip stops (take e.0 piece) e.1) (place_of a job pend) (e.1 ++ e.2) at in
        let Line_so : Session → Session → Type 0 = Line_of mid in (
          (e.1 ++ e.2) ++ [],
          record {
            job = line.job;
            pend = line.pend;
            kept = line.kept;
            goes = lighter flash (Along Cut_so Line_so) Made (place_of a job pend) last ((e.1 ++ e.2) ++ [])
                (λ s u h.
                let u_off : listens u.state.mode ≡ false =
                ap (λ (d : Debugger). listens d.mode) h.2 ∙ deaf mid_chip mid.runner.stops.items h.0 in
                record {
                  empty = λ empty. empty_deaf u u_off;
                  does = λ empty enough. record {
                    answered = λ small listening short little.
                        absurd (cut_absurd e.0 e.1 e.2 s h.0 job pend at empty h.1 past small short little);
                  };
                })
                (onward flash Cut_so Line_so (place_of a job pend) at last (e.1 ++ e.2) []
                (seen_so flash (IsCut chip stops (take e.0 piece) e.1) (place_of a job pend) at (e.1 ++ e.2) e.3.goes) line.goes);
          },
        )

    -- an emulator that listens is as it was
    on_so : (came : Chunk) → Becomes flash part_of came a.side piece b.side b.lost → IsOn flash part_of chip stops b
    on_so Taken becomes listening = (ap chip_of becomes.1.part, becomes.1.stops)
    on_so (Closes restored) becomes listening = (ap chip_of becomes.1.part, becomes.1.stops)
    on_so (Unsent true) becomes listening = (ap chip_of becomes.1.part, becomes.1.stops)
    on_so (Unsent false) becomes listening =
        absurd (true≢false (sym listening ∙ closed_deaf b.side.emulator.tool.mode becomes.4))

    goes_so : (came : Chunk) → Becomes flash part_of came a.side piece b.side b.lost → (job : Job F) (pend : List Asked) →
        IsKept flash part_of (place_of a job pend) →
        (out : List ℕ) × Continues flash part_of Made (place_of a job pend) out b.side.emulator b.side.runner
    goes_so Taken becomes job pend kept = whole_way job pend becomes.2 (becomes.0 job pend kept)
    goes_so (Closes restored) becomes job pend kept = closing_way restored job pend becomes.2 (becomes.0 job pend kept)
    goes_so (Unsent true) becomes job pend kept = lost_way job pend (becomes.0 job pend kept)
    goes_so (Unsent false) becomes job pend kept = cut_way becomes.0 becomes.1 job pend kept becomes.2 becomes.3

    taken_way : Way flash part_of chip stops a b (Answers b)
    taken_way = record {
      on = λ on. on_so tp.came tp.becomes;
      spends = omega (arith, spent);
      goes = λ on job pend kept. goes_so tp.came tp.becomes job pend kept;
    }

  -- what is sent for a command, by whether it is taken
  pub answers_way : (part : Chip) (its : List ℕ) (b : WireState F) → Sent (wire_words flash part_of) a piece b →
      Way flash part_of part its a b (Answering waiting Good part its number command a b)
  answers_way part its b sent = by_test (takes a piece) refl sent.0
    where
      by_test : (t : Bool) → takes a piece ≡ t → SendsIf flash part_of t a piece b → Way flash part_of part its a b (Answering waiting Good part its number command a b)
      by_test true e h =
          let on_a = first_of (listens a.side.emulator.tool.mode) (nat_le (length piece) a.allowed) e in
          let told : IsOn flash part_of part its a → Way flash part_of part its a b (Answering waiting Good part its number command a b) =
          λ on. subst (λ (c : Chip). Way flash part_of c its a b (Answering waiting Good c its number command a b)) (on on_a).0
          (subst (λ (l : List ℕ). Way flash part_of chip l a b (Answering waiting Good chip l number command a b)) (on on_a).1
          (taken_way b h.0 h.1 on_a)) in
          record {
            on = λ on. (told on).on on;
            spends = omega (arith, h.1);
            goes = λ on. (told on).goes on;
          }
      by_test false e h =
          subst (λ (x : WireState F). Way flash part_of part its a x (Answering waiting Good part its number command a x)) (sym h)
          (refused part its e)
