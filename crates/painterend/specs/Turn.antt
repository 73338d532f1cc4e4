-- What one turn of the program does, over the bytes in its two buffers.
use Rattle.std.specs.Prelude.{Bool, true, List, [], ◌⊎◌, ◌≢◌, ◌≡◌, ℕ, ◌-◌, ◌≤◌, ◌<◌, length, take, drop, Option, Result, Ok, Err, IfOk, MatchResult}
use Rattle.std.specs.Result.{IsOkAnd}
use Rattle.std.specs.Io.KnownBytes.{Appends, Consumes, IsAtEnd}
use Rattle.std.specs.declared.io.Error.{Error}
use Rattle.std.proofs.Math.Seq.{slice}
use Rattle.book.specs.State.{view, Wf}
use Rattle.book.specs.declared.Book.{Book}
use Rattle.page.specs.Printout.{closing}
use Rattle.page.specs.Laying.{Lays}
use Rattle.page.specs.declared.laying.Laid.{Laid}
use Rattle.parts.specs.Parts.{part_room}
use Rattle.painterend.specs.Program.{index, second}
use Rattle.painterend.specs.declared.turns.Progress.{Progress}
use Rattle.painterend.specs.declared.turns.State.{State}

-- the bytes that were read and are not passed yet
abbrev pub left : State → List ℕ → List ℕ
left s buffer = slice s.laid.at s.full buffer

-- so many bytes are at the front of the buffer, and more is to be read behind them
abbrev pub awaiting : Book → ℕ → ℕ → State
awaiting b place kept = record { laid = record { book = b; at = 0; place = place; count = 0; answer = 1 }; full = kept; progress = Progress.Reading }

-- an error was reported: nothing more is printed
pub record Failed (r : State) : Type 0 where
  pub none : r.laid.count ≡ 0
  pub over : r.progress ≡ Progress.Failed

-- ---- a read: how many bytes are filled after it, or an error
-- no more than there was room for, behind those that are kept
pub record Counted (kept size full : ℕ) : Type 0 where
  pub behind : kept ≤ full
  pub within : full ≤ size

-- a read leaves the bytes that are kept
pub record Brings (kept : ℕ) (before : List ℕ) (got : Result ℕ Error) (after : List ℕ) : Type 0 where
  pub stays : take kept after ≡ take kept before
  pub counted : IfOk got (Counted kept (length after))

-- where the bytes that the file has left are known, it gave those that stand behind the kept ones; none, where the read failed
abbrev pub Takes : ℕ → Result ℕ Error → List ℕ → Option (List ℕ) → Option (List ℕ) → Type 0
Takes kept got after unread rest = MatchResult got (λ full. Consumes unread rest (drop kept (take full after))) (λ _. Consumes unread rest [])

-- ---- what a turn is given: a sound state, within a part; and where more is to be read, room for a byte of it
pub record Ready (s : State) : Type 0 where
  pub sound : Wf s.laid.book
  pub range : s.laid.at ≤ s.full
  pub within : s.full ≤ part_room
  pub room_left : s.laid.answer ≡ 1 → s.full - s.laid.at < part_room
  pub why : (s.laid.answer ≡ 1) ⊎ ((s.laid.answer ≡ 2) ⊎ (s.laid.answer ≡ 15))

-- ---- what it does with the bytes that were left
-- the read was interrupted: they stay, at the front
pub record Interrupted (l : Laid) (bytes : List ℕ) (r : State) (after : List ℕ) : Type 0 where
  pub wanted : l.answer ≡ 1
  pub same : r ≡ awaiting l.book l.place (length bytes)
  pub stays : take (length bytes) after ≡ bytes

-- the part begins with them, and nothing is read behind them unless the walk wanted more; the texts of its messages are laid
pub record LaysPart (l : Laid) (bytes : List ℕ) (r : State) (after out : List ℕ) : Type 0 where
  pub sheet : List ℕ
  pub begins : take (length bytes) (take r.full after) ≡ bytes
  pub unread : l.answer ≢ 1 → r.full ≡ length bytes
  pub lays : Lays l.book (take r.full after) 0 l.place second sheet r.laid out
  pub goes_on : r.progress ≡ Progress.Reading

-- the file ended, or a Msg Size below 4 was met: the end is laid, with the answer that stopped the walk and the quote of the last state
pub record Ends (l : Laid) (r : State) (out : List ℕ) : Type 0 where
  pub text : take r.laid.count out ≡ closing (view l.book) index l.answer
  pub within : r.laid.count ≤ length out
  pub over : r.progress ≡ Progress.Done

pub data Turns (l : Laid) (bytes : List ℕ) (r : State) (after out : List ℕ) : Type 0 where
  interrupted : Interrupted l bytes r after → Turns l bytes r after out
  lays_part : LaysPart l bytes r after out → Turns l bytes r after out
  ends : l.answer ≢ 15 → Ends l r out → Turns l bytes r after out

-- and the next one can be made
pub record Turn (l : Laid) (bytes : List ℕ) (r : State) (after out : List ℕ) : Type 0 where
  pub turns : Turns l bytes r after out
  pub ready : r.progress ≡ Progress.Reading → Ready r
  pub count : r.laid.count ≤ length out

-- the bytes that a turn read: those of the part behind what was left
abbrev pub read_behind : List ℕ → State → List ℕ → List ℕ
read_behind bytes r after = drop (length bytes) (take r.full after)

-- where the bytes that the file has left are known, it gave those; a turn that ends the run took none, and for want of more only where none were left
pub record Reads (l : Laid) (bytes : List ℕ) (r : State) (after : List ℕ) (unread rest : Option (List ℕ)) : Type 0 where
  pub takes : r.progress ≡ Progress.Reading → Consumes unread rest (read_behind bytes r after)
  pub stops : r.progress ≡ Progress.Done → Consumes unread rest []
  pub ended : r.progress ≡ Progress.Done → l.answer ≡ 1 → IsAtEnd rest

-- the same of a turn that may fail, and then took none
abbrev pub ReadsOrFails : Laid → List ℕ → Result State Error → List ℕ → Option (List ℕ) → Option (List ℕ) → Type 0
ReadsOrFails l bytes r after unread rest = MatchResult r (λ s. Reads l bytes s after unread rest) (λ _. Consumes unread rest [])

-- so many bytes of a text were written, behind what stood on the page where that is known; all, where no write failed
pub record Puts (whole : Bool) (text : List ℕ) (page paper : Option (List ℕ)) : Type 0 where
  pub count : ℕ
  pub within : count ≤ length text
  pub bytes : Appends page paper (take count text)
  pub all : whole ≡ true → count ≡ length text

-- where the bytes of what is printed on are known, so many of those that were laid came behind them; all, where no error was reported
pub record Writes (s r : State) (out : List ℕ) (page paper : Option (List ℕ)) : Type 0 where
  pub count : ℕ
  pub within : count ≤ s.laid.count
  pub bytes : Appends page paper (take count out)
  pub whole : r.progress ≢ Progress.Failed → count ≡ s.laid.count

-- ---- for the pieces of a turn
-- the texts of a part are laid
pub record LaysFilled (l : Laid) (part sheet : List ℕ) (r : State) (out : List ℕ) : Type 0 where
  pub full : r.full ≡ length part
  pub lays : Lays l.book part 0 l.place second sheet r.laid out
  pub goes_on : r.progress ≡ Progress.Reading
  pub ready : Ready r
  pub count : r.laid.count ≤ length out

-- a read that failed and is made again
abbrev pub Unread : Laid → ℕ → Result State Error → Type 0
Unread l kept r = IfOk r (λ s. s ≡ awaiting l.book l.place kept)

-- by what a read brought: no byte more is the end of the file
abbrev pub Heeds : Result ℕ Error → Laid → ℕ → List ℕ → List ℕ → Result State Error → List ℕ → Type 0
Heeds (Err e) l kept buffer sheet r out = Unread l kept r
Heeds (Ok full) l kept buffer sheet r out = (full ≡ kept → IsOkAnd r (λ s. Ends l s out)) × (full ≢ kept → IsOkAnd r (λ s. LaysFilled l (take full buffer) sheet s out))
