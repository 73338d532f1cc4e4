-- A message that was done has been read, so it has no bad field, and has met its symbol, so that is registered: nothing refuses its line.
use Rattle.std.specs.Prelude.{is_some}
use Rattle.std.proofs.Common.{◌≡◌, ℕ, ◌≤◌, true, false, List, take, drop, sym, refl, ap, ◌∙◌, arith}
use mathlib.Core.Option.{Option, none, some, map}
use Rattle.wire.specs.Outcome.{Outcome, done}
use Rattle.wire.specs.Reading.{reach_of, read_of}
use Rattle.wire.specs.Message.{type_of, index_in, fault_in}
use Rattle.wire.specs.declared.Message.{Message}
use Rattle.markets.specs.declared.Market.{Market}
use Rattle.wire.proofs.GoodFields.{read_is_good}
use Rattle.symbols.specs.Registering.{told_of}
use Rattle.book.specs.State.{Symbol, View, Next, view, entry_of, place_in, symbol_in}
use Rattle.book.specs.Registering.{told_in}
use Rattle.book.specs.Step.{act_at, act_on, meant, step_on, step_of}
use Rattle.book.specs.Walk.{move_by, move_of, Moves}
use Rattle.book.specs.Reached.{Reached}
use Rattle.book.specs.declared.Book.{Book}
use Rattle.book.specs.declared.walk.Moved.{Moved}
use Rattle.book.proofs.Isolation.{own_symbol}
use Rattle.book.proofs.Reaching.{reached_wf}
use Rattle.feed.specs.Reader.{index_of}
use Rattle.page.specs.Printing.{has_no_line, last_second, laid, line_of, told}
use Rattle.page.specs.Printout.{sequence_of, done_text, passed_text}
use Rattle.page.proofs.Cases.{line_good}
use Rattle.page.proofs.Printouts.{passed_done, line_prints}

-- the index that a message means is the one that stands in it
index_meant : (m : Message) → index_of (meant m) ≡ index_in m
unfolding meant
index_meant (Message.Add h o p v s) = refl
index_meant (Message.Modify h o p v t s) = refl
index_meant (Message.Delete h o) = refl
index_meant (Message.Execute h o t p v s) = refl
index_meant (Message.Replace h o t p v s) = refl
index_meant (Message.Imbalance h s) = refl
index_meant (Message.NonDisplayed h t p v s) = refl
index_meant (Message.Cross h c p v s) = refl
index_meant (Message.TradeCancel h t) = refl
index_meant (Message.CrossCorrection h c v) = refl
index_meant (Message.Retail h c) = refl
index_meant (Message.Clear h s) = refl
index_meant (Message.Status h s) = refl

-- what was done has met its symbol, and that is told of it
met : (v : View) (m : Message) → (act_on v (meant m)).answer ≡ 0 → is_some (told_in (index_in m) (act_on v (meant m)).view) ≡ true
unfolding act_on told_in told_of
met v m e = rw (← index_meant m) (go (symbol_in (index_of (meant m)) v) refl e)
  where
    go : (x : Option Symbol) → symbol_in (index_of (meant m)) v ≡ x → (act_at v (place_in (index_of (meant m)) v) x (meant m)).answer ≡ 0 → is_some (told_in (index_of (meant m)) (act_on v (meant m)).view) ≡ true
    go none q z = absurd (omega (arith, z))
    go (some s) q z = ap (λ (x : Option Symbol). is_some (told_of (map entry_of x))) (own_symbol v (meant m) s q)

-- so the text that is laid of a done 100 or 111 is the line that `line` prints of it, on any day and into any buffer with room for it
pub done_gets_its_line : {b : Book} → Reached b → {s : List ℕ} {at n : ℕ} {r : Moved} → Moves b s at r → reach_of (drop at s) ≡ done n → r.answer ≡ 0 → (m : Message) → (read_of (view b).market (take n (drop at s))).outcome ≡ done m
    → has_no_line (type_of m) ≡ false → (place second : ℕ) → second ≤ last_second → (out : List ℕ)
    → line_of (view r.book).market (told r.book m) m (read_of (view b).market (take n (drop at s))).plain (sequence_of place) second out ≡ laid (passed_text (view b).market (record { view = view r.book; answer = r.answer }) (take n (drop at s)) place second) out
unfolding move_of step_of
done_gets_its_line {b = b} p {s = s} {at = at} {n = n} {r = r} moves reach zero m read type place second day out =
    let o = moves.obeys (reached_wf p) in
    let plain = (read_of (view b).market (take n (drop at s))).plain in
    let act : move_of (view b) s at ≡ act_on (view b) (meant m) = ap (λ (x : Outcome ℕ). move_by x (view b) s at) reach ∙ ap (step_on (view b)) read in
    let met_it : is_some (told_in (index_in m) (view r.book)) ≡ true =
    ap (λ (v : View). is_some (told_in (index_in m) v)) (o.next_view ∙ ap (λ (x : Next). x.view) act)
    ∙ met (view b) m (sym (ap (λ (x : Next). x.answer) act) ∙ sym o.answer ∙ zero) in
    line_good (view r.book).market (told r.book m) m plain (sequence_of place) second out type (ap (λ (k : Market). fault_in k m plain) moves.market ∙ read_is_good (view b).market (take n (drop at s)) m read) met_it day
    ∙ ap (λ (t : List ℕ). laid t out) (sym (passed_done (view b).market (view r.book) (take n (drop at s)) r.answer place second zero ∙ ap (λ (x : Outcome Message). done_text (view r.book) x plain place second) read ∙ line_prints (view r.book) m plain place second type))
