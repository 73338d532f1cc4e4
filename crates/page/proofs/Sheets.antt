-- A laying has laid some messages of the walk and has the rest to go: what is left of it from here comes to what all of it does.
use Rattle.std.proofs.Common.{◌≡◌, ℕ, zero, suc, ◌+◌, ◌-◌, ◌<◌, ◌≤◌, List, [], ◌++◌, length, take, drop, sym, refl, ap, ◌∙◌, not-suc-le-zero, arith, length-append, length-drop, drop-drop, take_at, drop_at, lt-ltb}
use Rattle.wire.specs.Outcome.{done, refused}
use Rattle.wire.specs.Reading.{reach_of}
use Rattle.book.specs.State.{view, Wf}
use Rattle.book.specs.Walk.{walk_for, walk_of}
use Rattle.book.specs.declared.Book.{Book}
use Rattle.columns.specs.Held.{room}
use Rattle.page.specs.Printing.{last_second, Appends}
use Rattle.page.specs.Laying.{Laying, ended, lay_from, lay_of, Lays, Front, sheet_of}
use Rattle.page.specs.declared.laying.Laid.{Laid}

-- ---- the buffer
pub front_more : (before text : List ℕ) (n : ℕ) (out t : List ℕ) (r : ℕ) (after : List ℕ) → Front before text n out → n + length t ≤ length before → Appends t n out r after → Front before (text ++ t) r after
front_more before text n out t r after f fits a =
    let long : length (text ++ t) ≡ r = length-append text t ∙ ap (λ (k : ℕ). k + length t) f.long ∙ sym a.count in
    let head : take n out ≡ text = ap (take n) f.shown ∙ take_at text (drop n before) n f.long in
    let rest : drop n out ≡ drop n before = ap (drop n) f.shown ∙ drop_at text (drop n before) n f.long in
    let tail : drop (n + length t) out ≡ drop (n + length t) before = sym (drop-drop (length t) n out) ∙ ap (drop (length t)) rest ∙ drop-drop (length t) n before in
    record {
      long = long;
      within = rw a.count fits;
      shown = a.out ∙ (λ i. head i ++ t ++ tail i) ∙ ap (λ (k : ℕ). text ++ t ++ drop k before) (sym a.count);
    }

-- behind the front, more was laid by a call that took it for given
pub front_on : (before text : List ℕ) (n : ℕ) (out t : List ℕ) (k : ℕ) (after : List ℕ) → Front before text n out → Front out (take n out ++ t) k after → Front before (text ++ t) k after
front_on before text n out t k after f g =
    let head : take n out ≡ text = ap (take n) f.shown ∙ take_at text (drop n before) n f.long in
    let rest : drop n out ≡ drop n before = ap (drop n) f.shown ∙ drop_at text (drop n before) n f.long in
    let long : length (text ++ t) ≡ k = ap (λ (l : List ℕ). length (l ++ t)) (sym head) ∙ g.long in
    let far : n + length t ≡ k = ap (λ (j : ℕ). j + length t) (sym f.long) ∙ sym (length-append text t) ∙ long in
    let tail : drop k out ≡ drop k before = ap (λ (j : ℕ). drop j out) (sym far) ∙ sym (drop-drop (length t) n out) ∙ ap (drop (length t)) rest ∙ drop-drop (length t) n before ∙ ap (λ (j : ℕ). drop j before) far in
    let whole : length out ≡ length before = ap (λ (l : List ℕ). length l) f.shown ∙ length-append text (drop n before) ∙ (omega (arith, f.long, f.within, length-drop n before)) in
    record {
      long = long;
      within = omega (arith, g.within, whole);
      shown = g.shown ∙ (λ i. (head i ++ t) ++ tail i);
    }

-- ---- what is left
pub record Rest (b₀ : Book) (stream : List ℕ) (from place second : ℕ) (before : List ℕ) (b : Book) (here p n : ℕ) (out : List ℕ) : Type 0 where
  pub fuel : ℕ
  pub enough : length stream < here + fuel
  pub some : 0 < fuel
  pub passed : from ≤ here
  pub still : here ≡ from → b ≡ b₀
  pub same_market : (view b).market ≡ (view b₀).market
  pub text : List ℕ
  pub front : Front before text n out
  pub sound : Wf b₀ → Wf b
  pub same : Wf b₀ → lay_from second (length before) (walk_for fuel stream here).answer (sheet_of (view b) here p text) (walk_for fuel stream here).messages ≡ lay_of second (length before) (view b₀) stream from place

pub rest_all : (b : Book) (stream : List ℕ) (from place second : ℕ) (before : List ℕ) → Rest b stream from place second before b from place 0 before
unfolding lay_of walk_of
rest_all b stream from place second before = record {
  fuel = suc (length stream);
  enough = omega arith;
  some = omega arith;
  passed = omega arith;
  still = λ e. refl;
  same_market = refl;
  text = [];
  front = record { long = refl; within = omega arith; shown = refl };
  sound = λ w. w;
  same = λ w. refl;
}

-- past the last second of the day
pub too_late : (b : Book) (stream : List ℕ) (from place second : ℕ) (before : List ℕ) → last_second < second → Lays b stream from place second before (record { book = b; at = from; place = place; count = 0; answer = 14 }) before
too_late b stream from place second before h = record { late = λ l. (refl, refl); beyond = refl; kept = λ e. refl; market = refl; obeys = λ l. absurd (omega (arith, h, l)) }

module _ {b₀ : Book} {stream : List ℕ} {from place second : ℕ} {before : List ℕ} {b : Book} {here p n : ℕ} {out : List ℕ} (l : Rest b₀ stream from place second before b here p n out) (h : second ≤ last_second) where
  abbrev ends_with : ℕ → Laid
  ends_with answer = record { book = b; at = here; place = p; count = n; answer = answer }

  -- a laying that ends here
  ends : (answer : ℕ) → (Wf b₀ → ended (sheet_of (view b) here p l.text) answer ≡ lay_of second (length before) (view b₀) stream from place) → Lays b₀ stream from place second before (ends_with answer) out
  ends answer e = record {
    late = λ z. absurd (omega (arith, h, z));
    beyond = ap (drop n) l.front.shown ∙ drop_at l.text (drop n before) n l.front.long;
    kept = l.still;
    market = l.same_market;
    obeys = λ z w. record {
      wf = l.sound w;
      next_view = ap (λ (x : Laying). x.sheet.view) (e w);
      at = ap (λ (x : Laying). x.sheet.at) (e w);
      place = ap (λ (x : Laying). x.sheet.place) (e w);
      count = sym l.front.long ∙ ap (λ (x : Laying). length x.sheet.text) (e w);
      answer = ap (λ (x : Laying). x.answer) (e w);
      out = l.front.shown ∙ ap (λ (k : ℕ). l.text ++ drop k before) (sym l.front.long) ∙ ap (λ (x : Laying). x.sheet.text ++ drop (length x.sheet.text) before) (e w);
    };
  }

  -- the walk stops here
  pub rest_stops : (a : ℕ) → reach_of (drop here stream) ≡ refused a → Lays b₀ stream from place second before (ends_with a) out
  unfolding walk_for lay_from
  rest_stops a e = go l.fuel l.some l.same
    where
      go : (g : ℕ) → 0 < g
          → (Wf b₀ → lay_from second (length before) (walk_for g stream here).answer (sheet_of (view b) here p l.text) (walk_for g stream here).messages ≡ lay_of second (length before) (view b₀) stream from place)
          → Lays b₀ stream from place second before (ends_with a) out
      go zero f s = absurd (not-suc-le-zero f)
      go (suc g) f s = ends a (λ w. rw e at (s w))

  -- the next text might not fit
  pub rest_full : (k : ℕ) → reach_of (drop here stream) ≡ done k → length before - n < room → Lays b₀ stream from place second before (ends_with 15) out
  unfolding walk_for lay_from
  rest_full k e few = go l.fuel l.some l.same
    where
      go : (g : ℕ) → 0 < g
          → (Wf b₀ → lay_from second (length before) (walk_for g stream here).answer (sheet_of (view b) here p l.text) (walk_for g stream here).messages ≡ lay_of second (length before) (view b₀) stream from place)
          → Lays b₀ stream from place second before (ends_with 15) out
      go zero f s = absurd (not-suc-le-zero f)
      go (suc g) f s = ends 15 (λ w. rw (e, l.front.long, lt-ltb (length before - n) room few) at (s w))
