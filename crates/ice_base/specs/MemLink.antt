-- A link in memory, and what its calls do.
use Rattle.std.specs.Prelude.{◌≡◌, ℕ, ◌-◌, Bool, false, not, ◌||◌, List, ◌++◌, take, length, nat_le}
use Rattle.ice_base.specs.Counts.{next_count}
use Rattle.ice_base.specs.MemSource.{SourceState, fails_next, read_len, after_read, after_failed_read}

-- what is to come, where the calls of both kinds and their failures are counted together; the bytes sent; how many bytes there was room for
pub record LinkState : Type 0 where
  pub incoming : SourceState
  pub sent : List ℕ
  pub room : ℕ

-- whether the next call fails, where it is a send of this piece
abbrev pub send_fails : LinkState → List ℕ → Bool
send_fails link piece = fails_next link.incoming || not (nat_le (length piece) (link.room - length link.sent))

-- the link after a send that worked
abbrev pub after_send : LinkState → List ℕ → LinkState
after_send link piece = record link { incoming = record link.incoming { calls = next_count link.incoming.calls }; sent = link.sent ++ piece }

-- the link after a receive that gave so many bytes
abbrev pub after_receive : LinkState → ℕ → LinkState
after_receive link count = record link { incoming = after_read link.incoming count }

-- the link after a call that failed
abbrev pub after_failed_call : LinkState → LinkState
after_failed_call link = record link { incoming = after_failed_read link.incoming }

-- what a send that worked does: the link before, the piece, the link after
abbrev pub Sends : LinkState → List ℕ → LinkState → Type 0
Sends before piece after = (send_fails before piece ≡ false) × (after ≡ after_send before piece)

-- what a receive into some buffer does, where it worked: the link before, the bytes received, the link after
abbrev pub Receives : LinkState → List ℕ → LinkState → Type 0
Receives before bytes after = (fails_next before.incoming ≡ false)
    × ((room : ℕ) × (length bytes ≡ read_len before.incoming room))
    × (bytes ≡ take (length bytes) before.incoming.left)
    × (after ≡ after_receive before (length bytes))
