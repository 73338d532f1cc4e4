-- What passes from the file and to the page, where the bytes of both are known: reads and writes one behind the other, and the whole run.
use mathlib.Core.Bool.{Bool, true, false}
use mathlib.Core.List.{List, [], ◌++◌, append_assoc}
use mathlib.Core.Logic.{◌≢◌}
use mathlib.Core.Path.{◌≡◌, refl, sym, ap, ◌∙◌, subst}
use Prim.Native.Nat.{ℕ, ◌+◌, ◌-◌, ◌≤◌}
use native.Mathlib.Omega.{arith}
use borrow.Author.Tests.{eqb-true, eqb-false}
use borrow.Rule.Slice.PartMut.{put_mid}
use lib.Dec.{eqb}
use lib.ListN.{length, take, drop, length-append, take-append-drop}
use lib.Seq.{length-take-le, drop-append_seam, take_at}
use Rattle.std.specs.Prelude.{Option, Result, Ok, Err, IfOk}
use Rattle.std.specs.Io.KnownBytes.{Keeps, Appends, Consumes, IsAtEnd}
use Rattle.std.specs.declared.io.Error.{Error}
use Rattle.std.proofs.KnownBytes.{Appends-trans, Appends-kept, Consumes-nil, Consumes-kept}
use Rattle.std.proofs.lemmas.List.{drop-take, take-append-le}
use Rattle.page.specs.declared.laying.Laid.{Laid}
use Rattle.parts.proofs.Opening.{Front}
use Rattle.painterend.specs.Turn.{awaiting, read_behind, Counted, Takes, Ends, Reads, ReadsOrFails, Puts, LaysFilled, Heeds}
use Rattle.painterend.specs.declared.turns.Progress.{Progress}
use Rattle.painterend.specs.declared.turns.State.{State}
use Rattle.painterend.proofs.Apart.{reading_done}

-- ---- one read, one write
pub consumes_none : (a b : Option (List ℕ)) → Keeps a b → Consumes a b []
consumes_none a b k = Consumes-kept a a b [] (Consumes-nil a) k

-- a read that fills a buffer behind the bytes that are kept
pub read_takes : (kept : ℕ) (before sub : List ℕ) (n : ℕ) (a b : Option (List ℕ)) → kept ≤ length before → n ≤ length sub → Consumes a b (take n sub)
    → Consumes a b (drop kept (take (kept + n) (put_mid kept (length before - kept) before sub)))
read_takes kept before sub n a b h most p =
    let after = put_mid kept (length before - kept) before sub in
    let rest = drop (length before - kept) (drop kept before) in
    let behind : drop kept after ≡ sub ++ rest = ap (λ (k : ℕ). drop k after) (sym (length-take-le kept before h)) ∙ drop-append_seam (take kept before) (sub ++ rest) in
    subst (Consumes a b) (sym (drop-take kept n after ∙ ap (take n) behind ∙ take-append-le n sub rest most)) p

-- ---- a text that is written: what was put, and then the rest
pub record Behind (text rest : List ℕ) (page paper : Option (List ℕ)) : Type 0 where
  pub put : List ℕ
  pub whole : text ≡ put ++ rest
  pub bytes : Appends page paper put

module _ (text rest : List ℕ) (page ink : Option (List ℕ)) (x : Behind text rest page ink) where
  -- a write takes the first bytes of the rest, or none
  pub write_adds : (n : ℕ) (paper : Option (List ℕ)) → Appends ink paper (take n rest) → Behind text (drop n rest) page paper
  write_adds n paper p = record {
    put = x.put ++ take n rest;
    whole = x.whole ∙ ap (λ (l : List ℕ). x.put ++ l) (sym (take-append-drop n rest)) ∙ sym (append_assoc x.put (take n rest) (drop n rest));
    bytes = Appends-trans page ink paper x.put (take n rest) x.bytes p;
  }

  pub write_keeps : (paper : Option (List ℕ)) → Keeps ink paper → Behind text rest page paper
  write_keeps paper p = record { put = x.put; whole = x.whole; bytes = Appends-kept page ink paper x.put x.bytes p }

  -- so far, the first bytes of the text
  pub some_put : (whole : Bool) → (whole ≡ true → rest ≡ []) → Puts whole text page ink
  some_put whole none =
      let long : length text ≡ length x.put + length rest = ap length x.whole ∙ length-append x.put rest in record {
        count = length x.put;
        within = omega (arith, long);
        bytes = subst (Appends page ink) (sym (ap (take (length x.put)) x.whole ∙ take_at x.put rest (length x.put) refl)) x.bytes;
        all = λ h. omega (arith, long, ap length (none h));
      }

-- ---- a turn
pub nothing_behind : (n full : ℕ) (after : List ℕ) → full ≡ n → drop n (take full after) ≡ []
nothing_behind n full after e = let none : full ≡ n + 0 = omega (arith, e) in ap (λ (k : ℕ). drop n (take k after)) none ∙ drop-take n 0 after

module _ (l : Laid) (after out : List ℕ) (a b : Option (List ℕ)) where
  -- nothing is read where the walk wanted no more
  pub reads_end : (bytes : List ℕ) (r : State) → Ends l r out → l.answer ≢ 1 → Keeps a b → Reads l bytes r after a b
  reads_end bytes r e n k = record {
    takes = λ g. absurd (reading_done g e.over);
    stops = λ g. consumes_none a b k;
    ended = λ g one. absurd (n one);
  }

  pub reads_laid : (bytes sheet : List ℕ) (r : State) (n : ℕ) → Front bytes n after → LaysFilled l (take n after) sheet r out → Keeps a b → Reads l bytes r after a b
  reads_laid bytes sheet r n f x k = record {
    takes = λ g. subst (Consumes a b) (sym (nothing_behind (length bytes) r.full after (x.full ∙ length-take-le n after f.within ∙ sym f.long))) (consumes_none a b k);
    stops = λ g. absurd (reading_done x.goes_on g);
    ended = λ g one. absurd (reading_done x.goes_on g);
  }

  -- by what the read brought
  module _ (kept : ℕ) (before sheet : List ℕ) (h : kept ≤ length before) where
    long : length (take kept before) ≡ kept
    long = length-take-le kept before h

    none : (full : ℕ) → full ≡ kept → Consumes a b (drop kept (take full after)) → Consumes a b []
    none full e takes = subst (Consumes a b) (nothing_behind kept full after e) takes

    behind : (r : State) (full : ℕ) → r.full ≡ full → Consumes a b (drop kept (take full after)) → Consumes a b (read_behind (take kept before) r after)
    behind r full e takes = subst (Consumes a b) (λ i. drop (sym long i) (take (sym e i) after)) takes

    again : (r : State) → r ≡ awaiting l.book l.place kept → Consumes a b [] → Reads l (take kept before) r after a b
    again r same takes =
        let on : r.progress ≡ Progress.Reading = ap (λ (s : State). s.progress) same in record {
          takes = λ g. subst (Consumes a b) (sym (nothing_behind (length (take kept before)) r.full after (ap (λ (s : State). s.full) same ∙ sym long))) takes;
          stops = λ g. absurd (reading_done on g);
          ended = λ g one. absurd (reading_done on g);
        }

    brought : (full : ℕ) (r : State) → full ≤ length after → (still : Bool) → eqb full kept ≡ still → (full ≡ kept → Ends l r out) → (full ≢ kept → LaysFilled l (take full after) sheet r out)
        → Consumes a b (drop kept (take full after)) → (full ≡ kept → IsAtEnd b) → Reads l (take kept before) r after a b
    brought full r most true q y z takes ended = let e = y (eqb-true full kept q) in record {
      takes = λ g. absurd (reading_done g e.over);
      stops = λ g. none full (eqb-true full kept q) takes;
      ended = λ g one. ended (eqb-true full kept q);
    }
    brought full r most false q y z takes ended = let x = z (eqb-false full kept q) in record {
      takes = λ g. behind r full (x.full ∙ length-take-le full after most) takes;
      stops = λ g. absurd (reading_done x.goes_on g);
      ended = λ g one. absurd (reading_done x.goes_on g);
    }

    pub reads_read : (got : Result ℕ Error) (r : Result State Error) → IfOk got (Counted kept (length after)) → Heeds got l kept after sheet r out
        → Takes kept got after a b → IfOk got (λ full. full ≡ kept → IsAtEnd b) → ReadsOrFails l (take kept before) r after a b
    reads_read (Err e) (Ok s) n y takes ended = again s y takes
    reads_read (Err e) (Err d) n y takes ended = takes
    reads_read (Ok full) (Ok s) n y takes ended = brought full s n.within (eqb full kept) refl y.0 y.1 takes ended
    reads_read (Ok full) (Err d) n y takes ended = go (eqb full kept) refl
      where
        go : (still : Bool) → eqb full kept ≡ still → Consumes a b []
        go true q = absurd (y.0 (eqb-true full kept q))
        go false q = absurd (y.1 (eqb-false full kept q))
