-- A run of the program: turns one after the other. What they read, one behind the other, is the file; what they laid, one behind the other, is what is printed.
use Rattle.std.specs.Prelude.{List, [], ◌++◌, ◌≢◌, ◌≡◌, ℕ, take, Option, IfSome}
use Rattle.std.specs.Io.KnownBytes.{Appends, Consumes}
use Rattle.book.specs.declared.Book.{Book}
use Rattle.painterend.specs.Program.{Starts, printout}
use Rattle.painterend.specs.Turn.{left, awaiting, read_behind, Failed, Interrupted, LaysPart, Ends}
use Rattle.painterend.specs.declared.turns.Progress.{Progress}
use Rattle.painterend.specs.declared.turns.State.{State}

-- what a turn laid
abbrev pub laid_by : State → List ℕ → List ℕ
laid_by r out = take r.laid.count out

-- the bytes read so far, the texts laid so far, the state, and the buffer
pub data Course : List ℕ → List ℕ → State → List ℕ → Type 0 where
  begins : {b : Book} {buffer : List ℕ} → Starts b → Course [] [] (awaiting b 0 0) buffer
  interrupted : {file text before after : List ℕ} {s r : State} → Course file text s before → s.progress ≡ Progress.Reading → Interrupted s.laid (left s before) r after → Course file text r after
  lays_part : {file text before after out : List ℕ} {s r : State} → Course file text s before → s.progress ≡ Progress.Reading → LaysPart s.laid (left s before) r after out
      → Course (file ++ read_behind (left s before) r after) (text ++ laid_by r out) r after
  ends : {file text before after out : List ℕ} {s r : State} → Course file text s before → s.progress ≡ Progress.Reading → s.laid.answer ≢ 15 → Ends s.laid r out → Course file (text ++ laid_by r out) r after
  fails : {file text before after : List ℕ} {s r : State} → Course file text s before → Failed r → Course file text r after

-- there was such a run up to this state, and where it has ended and reported no error, what it laid is the printout of what it read
pub record Ran (r : State) : Type 0 where
  pub file : List ℕ
  pub text : List ℕ
  pub buffer : List ℕ
  pub course : Course file text r buffer
  pub page : r.progress ≡ Progress.Done → text ≡ printout file

-- the same of a file and of a page whose bytes are known: what the run read are the first bytes that the file had left, and what was written are the first that it laid;
-- where it has ended and reported no error, the printout of all that the file had left was written
pub record Prints (r : State) (unread rest page paper : Option (List ℕ)) : Type 0 where
  pub ran : Ran r
  pub reads : Consumes unread rest ran.file
  pub written : List ℕ
  pub unwritten : List ℕ
  pub laid : ran.text ≡ written ++ unwritten
  pub writes : Appends page paper written
  pub whole : r.progress ≡ Progress.Done → IfSome unread (λ file. Appends page paper (printout file))
