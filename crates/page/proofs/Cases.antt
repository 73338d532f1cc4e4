-- Each test of printing decides one clause of the rule, so each case is one law; and no clause touches a byte beyond its count.
use Rattle.std.specs.Prelude.{Option, Some, None, is_some}
use Rattle.std.proofs.lemmas.List.{drop_all}
use borrow.Rule.Slice.PartMut.{put_mid}
use Rattle.std.proofs.Common.{zero-add, take_all, append-nil, length-drop, ◌-◌, ◌≡◌, ℕ, ◌+◌, ◌<◌, ◌≤◌, Bool, true, false, ltb, List, ◌++◌, length, take, drop, sym, refl, ap, ◌∙◌, subst, append_assoc, arith, length-append, length-take-le, drop-drop, take_at, drop_at, le-ltb, lt-ltb}
use lib.Seq.{drop-append_seam}
use Rattle.wire.specs.Outcome.{done, only}
use Rattle.wire.specs.Writing.{Write, leaving, refuse, refuse_field, count_of}
use Rattle.wire.specs.Message.{type_of, fault_in}
use Rattle.wire.specs.declared.Message.{Message}
use Rattle.markets.specs.declared.Market.{Market}
use Rattle.symbols.specs.declared.registering.Listing.{Listing}
use Rattle.columns.specs.Columns.{rendered}
use Rattle.page.specs.Columns.{listing_of, columns_of}
use Rattle.page.specs.Printing.{has_no_line, last_second, laid_if, laid, Appends, line_by, line_of}

-- ---- the room
module _ (line out : List ℕ) where
  pub laid_short : length out < length line → laid line out ≡ refuse 15 out
  unfolding laid
  laid_short h = rw (lt-ltb _ _ h) refl

  pub laid_fits : length line ≤ length out → laid line out ≡ leaving (only (done (length line))) (line ++ drop (length line) out)
  unfolding laid
  laid_fits h = rw (le-ltb _ _ h) refl

-- a text behind what was laid behind the first bytes: both are behind them
pub appends_then : (x y : List ℕ) {at : ℕ} {before : List ℕ} {n : ℕ} {mid : List ℕ} {r : ℕ} {after : List ℕ} → at ≤ length before → Appends x at before n mid → Appends y n mid r after → Appends (x ++ y) at before r after
appends_then x y {at} {before} {n} {mid} {r} {after} h p q =
    let long : length (take at before ++ x) ≡ n = length-append (take at before) x ∙ ap (λ (k : ℕ). k + length x) (length-take-le at before h) ∙ sym p.count in
    let first : take n mid ≡ take at before ++ x = ap (take n) p.out ∙ take_at (take at before ++ x) (drop (at + length x) before) n long in
    let rest : drop n mid ≡ drop (at + length x) before = ap (drop n) p.out ∙ drop_at (take at before ++ x) (drop (at + length x) before) n long in
    let far : at + length x + length y ≡ at + length (x ++ y) = omega (arith, length-append x y) in
    let tail : drop (n + length y) mid ≡ drop (at + length (x ++ y)) before = sym (drop-drop (length y) n mid) ∙ ap (drop (length y)) rest ∙ drop-drop (length y) (at + length x) before ∙ ap (λ (k : ℕ). drop k before) far in
    record {
      count = omega (arith, p.count, q.count, far);
      out = q.out ∙ (λ i. first i ++ y ++ tail i) ∙ ap (λ (l : List ℕ). l ++ drop (at + length (x ++ y)) before) (append_assoc (take at before) x y);
    }

-- the same text under another name
pub appends_as : {x y : List ℕ} {at : ℕ} {before : List ℕ} {r : ℕ} {after : List ℕ} → x ≡ y → Appends x at before r after → Appends y at before r after
appends_as {x} {y} {at} {before} {r} {after} e p = subst (λ (z : List ℕ). Appends z at before r after) e p

-- a text that was laid to the start of what follows the first bytes is behind them
pub appends_behind : {x : List ℕ} {n : ℕ} {before : List ℕ} {r : ℕ} {after : List ℕ} → Appends x 0 (take (length before - n) (drop n before)) r after → Appends x n before (n + r) (put_mid n (length before - n) before after)
appends_behind {x} {n} {before} {r} {after} p =
    let few : length (drop n before) ≤ length before - n = omega (arith, length-drop n before) in
    let rest : take (length before - n) (drop n before) ≡ drop n before = take_all (length before - n) (drop n before) few in
    record {
      count = omega (arith, p.count);
      out =
          ap (λ (l : List ℕ). take n before ++ (after ++ l)) (drop_all (length before - n) (drop n before) few)
          ∙ ap (λ (l : List ℕ). take n before ++ l) (append-nil after ∙ p.out)
          ∙ sym (append_assoc (take n before) x (drop (0 + length x) (take (length before - n) (drop n before))))
          ∙ ap (λ (l : List ℕ). take n before ++ x ++ l) ((λ i. drop (zero-add (length x) i) (rest i)) ∙ drop-drop (length x) n before);
    }

-- a text that was laid to the start of a buffer with room for it is what printing lays
pub laid_put : {x out after : List ℕ} {r : ℕ} → length x ≤ length out → Appends x 0 out r after → leaving (only (done r)) after ≡ laid x out
laid_put {x} {out} {after} {r} h p =
    (λ i. leaving (only (done (count i))) ((p.out ∙ ap (λ (k : ℕ). x ++ drop k out) (zero-add (length x))) i)) ∙ sym (laid_fits x out h)
  where
    count : r ≡ length x
    count = p.count ∙ zero-add (length x)

-- from the start of a buffer it is the first bytes
pub appends_first : {x : List ℕ} {before : List ℕ} {r : ℕ} {after : List ℕ} → Appends x 0 before r after → take r after ≡ x
appends_first {x} {before} {r} {after} p = ap (take r) p.out ∙ take_at x (drop (0 + length x) before) r (omega (arith, p.count))

-- ---- the checks, in their order
module _ (market : Market) (s : Option Listing) (m : Message) (plain : List ℕ) (sequence second : ℕ) (out : List ℕ) where
  pub line_no_type : has_no_line (type_of m) ≡ true → line_of market s m plain sequence second out ≡ refuse 3 out
  unfolding line_of line_by
  line_no_type h = rw h refl

  module _ (type : has_no_line (type_of m) ≡ false) where
    pub line_bad_field : (n : ℕ) → fault_in market m plain ≡ Some n → line_of market s m plain sequence second out ≡ refuse_field n out
    unfolding line_of line_by
    line_bad_field n h = rw (type, h) refl

    module _ (good : fault_in market m plain ≡ None) where
      pub line_no_symbol : is_some s ≡ false → line_of market s m plain sequence second out ≡ refuse 5 out
      unfolding line_of line_by
      line_no_symbol h = rw (type, good, h) refl

      module _ (known : is_some s ≡ true) where
        pub line_bad_second : last_second < second → line_of market s m plain sequence second out ≡ refuse 14 out
        unfolding line_of line_by
        line_bad_second h = rw (type, good, known, lt-ltb _ _ h) refl

        pub line_good : second ≤ last_second → line_of market s m plain sequence second out ≡ laid (rendered (columns_of (listing_of s) m plain sequence second)) out
        unfolding line_of line_by
        line_good h = rw (type, good, known, le-ltb _ _ h) refl

-- ---- what stays in the buffer: the bytes beyond the count, so all of it where a line is refused
abbrev pub StaysBeyond : Write → List ℕ → Type 0
StaysBeyond w out = drop (count_of w.outcome) w.out ≡ drop (count_of w.outcome) out

laid_stays : (short : Bool) (line out : List ℕ) → StaysBeyond (laid_if short line out) out
laid_stays true line out = refl
laid_stays false line out = drop-append_seam line (drop (length line) out)

pub laid_beyond : (line out : List ℕ) → StaysBeyond (laid line out) out
unfolding laid
laid_beyond line out = laid_stays (ltb (length out) (length line)) line out

line_stays : (no_line : Bool) (bad : Option ℕ) (known late : Bool) (line out : List ℕ) → StaysBeyond (line_by no_line bad known late line out) out
unfolding line_by
line_stays true bad known late line out = refl
line_stays false (Some n) known late line out = refl
line_stays false None false late line out = refl
line_stays false None true true line out = refl
line_stays false None true false line out = laid_beyond line out

pub bytes_beyond_stay : (market : Market) (s : Option Listing) (m : Message) (plain : List ℕ) (sequence second : ℕ) (out : List ℕ) → StaysBeyond (line_of market s m plain sequence second out) out
unfolding line_of
bytes_beyond_stay market s m plain sequence second out = line_stays _ _ _ _ _ out
