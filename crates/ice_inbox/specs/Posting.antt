-- The rule of the inbox, which holds at every moment: what each sender has sent is what was taken of it, and then what waits of it.
use Rattle.std.specs.Prelude.{◌≡◌, ℕ, ◌≤◌, Bool, true, false, List, [], ◌∷◌, ◌++◌, None, Some, IfSome, length}
use mathlib.Core.Option as maybe
use mathlib.Core.List.{IsPrefix}
use lib.ListN.{get_elem?}
use Rattle.crossbeam_channel.specs.Fifo.{Pushes}
use Rattle.ice_inbox.specs.declared.inbox.Note.{Note}
use Rattle.ice_inbox.specs.declared.inbox.View.{View}
use Rattle.ice_inbox.specs.Notes.{of_line, of_target, bytes_in, line_limit}

-- how many notes wait at most
abbrev pub capacity : ℕ
capacity = 16

-- what happened so far: which passes the line, as long as its sender is not taken in, the target and the receiver have,
-- what each of the two has sent, and what was taken
pub record Past : Type 0 where
  pub line : maybe.Option ℕ
  pub target : ℕ
  pub reader : ℕ
  pub by_line : List Note
  pub by_target : List Note
  pub taken : List Note

-- the line's pass knows what the line has sent
abbrev pub FitsLine : Past → ℕ → View → Type 0
FitsLine past pass view = view.lines ≡ true → (past.line ≡ maybe.some pass) × (view.sent ≡ past.by_line)

-- the target's pass knows what the target has sent
abbrev pub FitsTarget : Past → ℕ → View → Type 0
FitsTarget past pass view = view.targets ≡ true → (past.target ≡ pass) × (view.sent ≡ past.by_target)

-- the receiver's pass knows what was taken; where it knows what the line has sent, the line sends no more
abbrev pub FitsReader : Past → ℕ → View → Type 0
FitsReader past pass view = view.reads ≡ true
    → (past.reader ≡ pass) × (view.taken ≡ past.taken) × IfSome view.known (λ sent. (past.line ≡ maybe.none) × (sent ≡ past.by_line))

abbrev pub Fits : Past → ℕ → View → Type 0
Fits past pass view = FitsLine past pass view × FitsTarget past pass view × FitsReader past pass view

-- the rule, of the notes that wait, the oldest first, and of all views
pub record Posted (items : List Note) (views : List View) : Type 0 where
  pub past : Past
  pub line_order : of_line (past.taken ++ items) ≡ past.by_line
  pub target_order : of_target (past.taken ++ items) ≡ past.by_target
  pub bounded : bytes_in past.by_line ≤ line_limit
  pub room : length items ≤ capacity
  pub each : (pass : ℕ) (view : View) → get_elem? views pass ≡ maybe.some view → Fits past pass view

-- the first pass, of which all others are cut
abbrev pub whole_view : View
whole_view = record { lines = true; targets = true; reads = true; sent = []; taken = []; known = None }

-- a pass of one sender that has sent nothing
abbrev pub sender_view : Bool → Bool → View
sender_view lines targets = record { lines = lines; targets = targets; reads = false; sent = []; taken = []; known = None }

-- a pass that was joined
abbrev pub spent_view : View
spent_view = sender_view false false

-- one note more was sent
abbrev pub sent_more : View → Note → View
sent_more view note = record view { sent = view.sent ++ note ∷ [] }

-- one note more was taken
abbrev pub taken_more : View → Note → View
taken_more view note = record view { taken = view.taken ++ note ∷ [] }

-- what the line has sent is known
abbrev pub knows_line : View → View → View
knows_line view line = record view { known = Some line.sent }

-- whatever waits, fewer notes than so many, and whatever the others have done: the note may be sent, and the view lists it then
abbrev pub MaySend : ℕ → ℕ → View → Note → Type 0
MaySend room pass view note = Pushes Posted room pass view note (λ after. after ≡ sent_more view note)

-- what a look at the channel tells: where it is known what the line has sent, what was taken of the line is a prefix of it
abbrev pub Compares : View → Type 0
Compares view = IfSome view.known (λ sent. IsPrefix (of_line view.taken) sent)

-- what a receive tells: the note is listed, the notes taken hold no more bytes than the line may send, and a look would tell the same
abbrev pub Takes : View → Note → View → Type 0
Takes before note after = (after ≡ taken_more before note) × (bytes_in after.taken ≤ line_limit) × Compares after

-- at every moment: what was taken of each sender is, in its order and each note once, a prefix of what that sender has sent
abbrev pub TakenInOrder : List View → Type 0
TakenInOrder views = (sending reading : ℕ) (sender reader : View)
    → get_elem? views sending ≡ maybe.some sender → get_elem? views reading ≡ maybe.some reader → reader.reads ≡ true
    → (sender.lines ≡ true → IsPrefix (of_line reader.taken) sender.sent)
    × (sender.targets ≡ true → IsPrefix (of_target reader.taken) sender.sent)
