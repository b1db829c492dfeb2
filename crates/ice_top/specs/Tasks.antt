-- What main makes for the words: the objects of a call of `ice2`, of `ice2_serve` or of `ice2_connect`.
use Rattle.std.specs.Prelude.{◌≡◌, ℕ, List}
use Rattle.ice_top.specs.Words.{Form, replay, script, frames, gen, listing, verifying, assembling, serving, connecting, SaysNone}
use Rattle.ice_top.specs.Endings.{Called}
use Rattle.ice_top.specs.declared.task_kind.Task.{Task}
use Rattle.ice_top.specs.declared.task_kind.Task.TheVariants.{Local, Serve, Connect, Usage}

-- the task of a form
abbrev pub task_by : Form → Task
task_by (replay image stops) = Local
task_by (script image stops) = Local
task_by frames = Local
task_by (gen seed count) = Local
task_by (listing image) = Local
task_by (verifying image) = Local
task_by assembling = Local
task_by (serving port image) = Serve port
task_by (connecting port) = Connect port

-- the words say a call with this task
abbrev pub CallsFor : List (List ℕ) → Task → Type 0
CallsFor words task = Called words (λ form part. task_by form ≡ task)

-- the task of words: that of the call that they say, or none where they say no call
abbrev pub TaskSaid : List (List ℕ) → Task → Type 0
TaskSaid words Local = CallsFor words Local
TaskSaid words (Serve port) = CallsFor words (Serve port)
TaskSaid words (Connect port) = CallsFor words (Connect port)
TaskSaid words Usage = SaysNone words
