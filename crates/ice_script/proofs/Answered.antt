-- Behind a piece something more waits.
use Rattle.std.proofs.Common.{◌≡◌, ◌++◌, ap, sym, ◌∙◌, ℕ, Bool, true, false, List, take, Some}
use Rattle.std.specs.Prelude.{Result, Ok, Err, ⊤}
use Rattle.part_spec.specs.declared.part.Part.{Part}
use Rattle.debug_spec.specs.Moved.{Flash}
use Rattle.flash_patch.specs.declared.plan.FlashFault.{FlashFault}
use Rattle.ice_replay.specs.Steps.{IsPlaced}
use Rattle.ice_replay.specs.Lines.{WritesBehind}
use Rattle.ice_replay.specs.declared.chunk.Chunk.{Chunk}
use Rattle.ice_replay.specs.declared.chunk.Chunk.TheVariants.{Taken, Closed as Closes, Unsent}
use Rattle.ice_script.specs.Queue.{Waiting}
use Rattle.ice_script.specs.Wires.{Side, Becomes, TakesPiece}

-- what is written behind the end of a session comes at the end
behind : (stopped late : Bool) (restored : Result ⊤ FlashFault) (before after : List ℕ) (faults now : ℕ) (out : List ℕ) →
    WritesBehind stopped late restored (Some before) (Some after) faults now out → (bytes : List ℕ) × (after ≡ before ++ bytes)
behind stopped late (Ok restored) before after faults now out w = (out, w.0)
behind stopped false (Err fault) before after faults now out w = (out, w.0)
behind stopped true (Err fault) before after faults now out w = (take w.0.0.0 out, w.0.0.1)

module _ {F : Type 0} (flash : Flash F) (part_of : F → Part) (before : Side F) (piece : List ℕ) (after : Side F) (lost : Bool)
    (placed : IsPlaced flash part_of before.emulator before.runner) where
  by_came : (came : Chunk) → Becomes flash part_of came before piece after lost →
      (bytes : List ℕ) × (after.queue.bytes ≡ before.queue.bytes ++ bytes)
  by_came Taken b = let e = b.0 placed.0 placed.1 placed.2 in (e.0, e.2.0)
  by_came (Closes restored) b =
      let e = b.0 placed.0 placed.1 placed.2 in behind e.2 e.3 restored before.queue.bytes after.queue.bytes _ _ e.1 e.5
  by_came (Unsent true) b = let e = b.0 placed.0 placed.1 placed.2 in (e.1 ++ take e.4.0.0 e.2, e.4.0.1)
  by_came (Unsent false) b =
      let e = b.2 placed.0 placed.1 placed.2 in
      (e.1 ++ take e.4.0.0 e.2, ap (λ (q : Waiting). q.bytes) (sym b.1) ∙ e.4.0.1)

  -- more waits than did
  pub answered : TakesPiece flash part_of before piece after lost → (bytes : List ℕ) × (after.queue.bytes ≡ before.queue.bytes ++ bytes)
  answered t = by_came t.came t.becomes
