-- The first bad one of the checks stands at the first bad field, since they stand in the order of their offsets.
use Rattle.std.specs.Prelude.{Option, Some, None}
use native.Mathlib.Nat.{add-zero}
use mathlib.Core.Bool.{Bool, true, false, cond, not, false≢true}
use mathlib.Core.List.{List, [], ◌∷◌}
use mathlib.Core.Logic.{inl, inr, ⊎_elim, ◌≢◌}
use mathlib.Core.Path.{◌≡◌, refl, sym, ap, ◌∙◌}
use Prim.Native.Nat.{ℕ, zero, suc, ◌+◌, ◌-◌, ◌≤◌, ◌<◌}
use native.Mathlib.Omega.{arith}
use lib.Dec.{ltb}
use lib.ListN.{take, drop, get_or}
use lib.Seq.{get_or-take}
use borrow.Author.Tests.{ltb-true, ltb-false}
use Rattle.wire.specs.Bytes.{value_at}
use Rattle.markets.specs.Conditions.{listed}
use Rattle.wire.specs.Table.{table, shape_of}
use Rattle.wire.specs.Fields.{conditions_in, Sane, fields_at, array_at, array_of, nanos_bad, volume_bad, flag_bad, side_bad, Check, conditions_at, checks_of, first_bad, fault_of}
use Rattle.wire.specs.Message.{fields_of, type_of}
use Rattle.wire.specs.Reading.{least_size, msg_type}
use Rattle.wire.specs.FirstBad.{BadAt, GoodBefore, FirstBad}
use Rattle.wire.specs.declared.table.Layout.{Layout}
use Rattle.wire.specs.declared.fields.Fields.{Fields}
use Rattle.wire.specs.declared.Message.{Message}
use Rattle.markets.specs.declared.Market.{Market}
use Rattle.wire.proofs.Numbers.{value_empty}
use Rattle.wire.proofs.Layouts.{AllRows, by_rows, at_row, layout_sane}

-- ---- each check in its turn: a bad one is the first, where those before it are good
module _ (market : Market) (l : Layout) (f : Fields) (array : List ℕ) where
  pub nanos_first : nanos_bad f.nanos ≡ true → fault_of market l f array ≡ Some l.form
  unfolding fault_of first_bad
  nanos_first h = rw h

  module _ (nanos : nanos_bad f.nanos ≡ false) where
    pub volume_first : volume_bad l.positive f.volume ≡ true → fault_of market l f array ≡ Some l.volume
    unfolding fault_of first_bad
    volume_first h = rw (nanos, h)

    module _ (volume : volume_bad l.positive f.volume ≡ false) where
      pub flag_first : flag_bad f.flag ≡ true → fault_of market l f array ≡ Some l.flag
      unfolding fault_of first_bad
      flag_first h = rw (nanos, volume, h)

      module _ (flag : flag_bad f.flag ≡ false) where
        pub side_first : side_bad (ltb l.side l.letter) f.side ≡ true → fault_of market l f array ≡ Some l.side
        unfolding fault_of first_bad
        side_first h = rw (nanos, volume, flag, h)

-- and the fourth condition, where those before it are listed
module _ (market : Market) (at : ℕ) (array : List ℕ) where
  abbrev bad : ℕ → Bool
  bad i = not (listed market i (get_or array i 0))

  module _ (one : bad 0 ≡ false) (two : bad 1 ≡ false) (three : bad 2 ≡ false) where
    pub fourth_condition : bad 3 ≡ true → first_bad (conditions_at true at market array) ≡ Some (at + 3)
    unfolding first_bad
    fourth_condition h = rw (one, two, three, h)

-- of those from the i-th on the first bad one is that one, or the first of those behind it
module _ (market : Market) (at : ℕ) (array : List ℕ) where
  abbrev pub conditions_from : ℕ → Option ℕ
  conditions_from i = first_bad (drop i (conditions_at true at market array))

  pub next_condition : (i : ℕ) → i < 4 → conditions_from i ≡ cond (not (listed market i (get_or array i 0))) (Some (at + i)) (conditions_from (i + 1))
  unfolding first_bad
  next_condition zero h = rw add-zero refl
  next_condition (suc zero) h = refl
  next_condition (suc (suc zero)) h = refl
  next_condition (suc (suc (suc zero))) h = refl
  next_condition (suc (suc (suc (suc i)))) h = absurd (omega (arith, h))

-- they lie within the array, so that the bytes behind it are not looked at
pub own_conditions : (market : Market) (l : Layout) → Sane l → (plain : List ℕ) → conditions_at l.coded l.plain market (array_of l plain) ≡ conditions_at l.coded l.plain market plain
own_conditions market l sane plain = go l.coded (l.pad - l.plain) (omega (arith, sane.coded₀))
  where
    go : (coded : Bool) (n : ℕ) → conditions_in coded ≤ n → conditions_at coded l.plain market (take n plain) ≡ conditions_at coded l.plain market plain
    go false n h = refl
    go true n h = rw (get_or-take n plain 0 0 (omega (arith, h)), get_or-take n plain 1 0 (omega (arith, h)), get_or-take n plain 2 0 (omega (arith, h)), get_or-take n plain 3 0 (omega (arith, h)))

-- so the first bad field is that of the array with those behind it
pub own_fault : (market : Market) (l : Layout) → Sane l → (f : Fields) (plain : List ℕ) → fault_of market l f (array_of l plain) ≡ fault_of market l f plain
unfolding fault_of
own_fault market l sane f plain =
    ap (λ (cs : List Check). first_bad (record { at = l.form; bad = nanos_bad f.nanos } ∷ record { at = l.volume; bad = volume_bad l.positive f.volume } ∷ record { at = l.flag; bad = flag_bad f.flag }
    ∷ record { at = l.side; bad = side_bad (ltb l.side l.letter) f.side } ∷ cs)) (own_conditions market l sane plain)

-- ---- any list of checks whose offsets do not fall
abbrev Rises : ℕ → List Check → Type 0
Rises a [] = Unit {0}
Rises a (c ∷ cs) = (a ≤ c.at) × Rises c.at cs

none_before : (n a : ℕ) (cs : List Check) → n ≤ a → Rises a cs → GoodBefore n cs
none_before n a [] h r = tt
none_before n a (c ∷ cs) h r = ((λ below. absurd (omega (arith, h, r.0, below))), none_before n c.at cs (omega (arith, h, r.0)) r.1)

found : (n a : ℕ) (cs : List Check) → Rises a cs → first_bad cs ≡ Some n → BadAt n cs × GoodBefore n cs
unfolding first_bad
found n a [] r e = absurd (let z : ◌≡◌ {A = ℕ} 0 1 = cc in omega arith)
found n a (c ∷ cs) r e = go c.bad refl (found n c.at cs r.1) e
  where
    go : (b : Bool) → c.bad ≡ b → (first_bad cs ≡ Some n → BadAt n cs × GoodBefore n cs) → cond b (Some c.at) (first_bad cs) ≡ Some n → BadAt n (c ∷ cs) × GoodBefore n (c ∷ cs)
    go true q ih p = let here : c.at ≡ n = cc in
        (inl (here, q), ((λ below. absurd (omega (arith, here, below))), none_before n c.at cs (omega (arith, here)) r.1))
    go false q ih p = (inr (ih p).0, ((λ below. q), (ih p).1))

none_found : (n : ℕ) (cs : List Check) → first_bad cs ≡ None → BadAt n cs → ⊥
unfolding first_bad
none_found n [] e b = b
none_found n (c ∷ cs) e b = go c.bad refl (none_found n cs) e b
  where
    go : (x : Bool) → c.bad ≡ x → (first_bad cs ≡ None → BadAt n cs → ⊥) → cond x (Some c.at) (first_bad cs) ≡ None → BadAt n (c ∷ cs) → ⊥
    go true q ih p b = let z : ◌≡◌ {A = ℕ} 0 1 = cc in omega arith
    go false q ih p b = ⊎_elim (λ x. false≢true (sym q ∙ x.1)) (ih p) b

-- what holds of every bad check holds of the offset
abbrev Bads : (ℕ → Type 0) → List Check → Type 0
Bads P [] = Unit {0}
Bads P (c ∷ cs) = (c.bad ≡ true → P c.at) × Bads P cs

at_bad : (P : ℕ → Type 0) (n : ℕ) (cs : List Check) → Bads P cs → BadAt n cs → P n
at_bad P n [] h b = absurd b
at_bad P n (c ∷ cs) h b = ⊎_elim (λ x. rw (← x.0) (h.0 x.1)) (at_bad P n cs h.1) b

-- a bad check is not before the first
not_before : (n k : ℕ) (cs : List Check) → BadAt n cs → GoodBefore k cs → k ≤ n
not_before n k [] b g = absurd b
not_before n k (c ∷ cs) b g = ⊎_elim (λ x. go (ltb n k) refl x) (λ x. not_before n k cs x g.1) b
  where
    go : (less : Bool) → ltb n k ≡ less → (c.at ≡ n) × (c.bad ≡ true) → k ≤ n
    go false e x = ltb-false n k e
    go true e x = absurd (false≢true (sym (g.0 (omega (arith, x.0, ltb-true n k e))) ∙ x.1))

-- ---- the checks of a layout: they stand in the order of their offsets, and a bad one is a field that the type has
abbrev Within : Layout → ℕ → Type 0
Within l n = (least_size ≤ n) × (n < l.size)

volume_counts : (positive : Bool) (v : ℕ) → volume_bad positive v ≡ true → positive ≡ true
volume_counts false v e = absurd (false≢true e)
volume_counts true v e = refl

side_there : (there : Bool) (x : ℕ) → side_bad there x ≡ true → there ≡ true
side_there false x e = absurd (false≢true e)
side_there true x e = refl

-- where a volume must be positive, there is one
abbrev HasVolume : ℕ → Layout → Type 0
HasVolume n l = l.positive ≡ true → l.volume < l.flag

table_volumes : AllRows HasVolume table
table_volumes = ((λ e. omega arith), ((λ e. omega arith), ((λ e. absurd (false≢true e)), ((λ e. omega arith), ((λ e. omega arith), ((λ e. absurd (false≢true e)), ((λ e. omega arith), ((λ e. omega arith), ((λ e. absurd (false≢true e)), ((λ e. omega arith), ((λ e. absurd (false≢true e)), ((λ e. absurd (false≢true e)), ((λ e. absurd (false≢true e)), tt)))))))))))))

-- the conditions, from an offset on
module _ (market : Market) (array : List ℕ) where
  conditions_rise : (coded : Bool) (a at : ℕ) → a ≤ at → Rises a (conditions_at coded at market array)
  conditions_rise false a at h = tt
  conditions_rise true a at h = (h, (omega arith, (omega arith, (omega arith, tt))))

  conditions_within : (coded : Bool) (l : Layout) (at : ℕ) → least_size ≤ at → at + conditions_in coded ≤ l.size → Bads (Within l) (conditions_at coded at market array)
  conditions_within false l at least h = tt
  conditions_within true l at least h = (
    (λ e. (least, omega (arith, h))),
    ((λ e. (omega (arith, least), omega (arith, h))), ((λ e. (omega (arith, least), omega (arith, h))), ((λ e. (omega (arith, least), omega (arith, h))), tt))),
  )

module _ (market : Market) (l : Layout) (f : Fields) (array : List ℕ) (s : Sane l) where
  -- the fields up to the volume, and from there to the end
  front : (l.form < l.volume) × (least_size ≤ l.form)
  front = (omega (arith, s.order₀, s.fresh₀, s.id₀, s.price₀, s.volume₀), s.form₀)

  back : (l.volume ≤ l.flag) × (l.flag ≤ l.side) × (l.side ≤ l.letter) × (l.letter ≤ l.plain) × (l.plain + conditions_in l.coded ≤ l.size)
  back = (s.flag₀, s.side₀, s.letter₀, omega (arith, s.gap₀, s.plain₀), omega (arith, s.coded₀, s.size₀))

  rises : Rises least_size (checks_of market l f array)
  rises = (front.1, (omega (arith, front), (back.0, (back.1, conditions_rise market array l.coded l.side l.plain (omega (arith, back))))))

  -- a flag that the type lacks is 0
  module _ (volume : l.positive ≡ true → l.volume < l.flag) (lacks : l.flag ≡ l.side → f.flag ≡ 0) where
    flag_within : 1 < f.flag → l.flag < l.side
    flag_within more = go (ltb l.flag l.side) refl
      where
        go : (b : Bool) → ltb l.flag l.side ≡ b → l.flag < l.side
        go true e = ltb-true l.flag l.side e
        go false e = absurd (omega (arith, more, lacks (omega (arith, ltb-false l.flag l.side e, s.side₀))))

    bads_within : Bads (Within l) (checks_of market l f array)
    bads_within = (
      (λ e. (front.1, omega (arith, front, back))),
      (
        (λ e. (omega (arith, front), omega (arith, front, back, volume (volume_counts l.positive f.volume e)))),
        (
          (λ e. (omega (arith, front, back), omega (arith, front, back, flag_within (ltb-true 1 f.flag e)))),
          ((λ e. (omega (arith, front, back), omega (arith, front, back, ltb-true l.side l.letter (side_there (ltb l.side l.letter) f.side e)))), conditions_within market array l.coded l l.plain (omega (arith, front, back)) (omega (arith, back))),
        ),
      ),
    )

    pub first_bad_lem : (n : ℕ) → fault_of market l f array ≡ Some n → FirstBad market l f array n
    unfolding fault_of
    first_bad_lem n e =
        let x = found n least_size (checks_of market l f array) rises e in
        let in-it = at_bad (Within l) n (checks_of market l f array) bads_within x.0 in
        record { bad = x.0; before = x.1; behind_type = in-it.0; within = in-it.1 }

-- there is one first bad field
pub one_first : {market : Market} {l : Layout} {f : Fields} {array : List ℕ} {n k : ℕ} → FirstBad market l f array n → FirstBad market l f array k → n ≡ k
one_first {market = market} {l = l} {f = f} {array = array} {n = n} {k = k} x y =
    omega (arith, not_before n k (checks_of market l f array) x.bad y.before, not_before k n (checks_of market l f array) y.bad x.before)

-- and none where no check is bad
pub no_first : {market : Market} {l : Layout} {f : Fields} {array : List ℕ} {n : ℕ} → fault_of market l f array ≡ None → FirstBad market l f array n → ⊥
unfolding fault_of
no_first {market = market} {l = l} {f = f} {array = array} {n = n} e x = none_found n (checks_of market l f array) e x.bad

-- ---- of bytes, and of a typed message
pub bytes_first : (market : Market) (s : List ℕ) (l : Layout) → shape_of (msg_type s) ≡ Some l → (n : ℕ) → fault_of market l (fields_at s l) (array_at s l) ≡ Some n → FirstBad market l (fields_at s l) (array_at s l) n
bytes_first market s l known n e =
    first_bad_lem market l (fields_at s l) (array_at s l) (layout_sane (msg_type s) l known) (by_rows HasVolume table_volumes (msg_type s) l known)
    (λ same. ap (λ (e : ℕ). value_at s l.flag e) (sym same) ∙ value_empty s l.flag) n e

no_flag : (m : Message) (l : Layout) → shape_of (type_of m) ≡ Some l → l.flag ≡ l.side → (fields_of m).flag ≡ 0
unfolding shape_of
no_flag (Message.Add h o p v s) l e same = refl
no_flag (Message.Modify h o p v t s) l e same = absurd (at_row (λ (l : Layout). l.flag ≢ l.side) 101 l e (λ q. omega (arith, q)) same)
no_flag (Message.Delete h o) l e same = refl
no_flag (Message.Execute h o t p v s) l e same = absurd (at_row (λ (l : Layout). l.flag ≢ l.side) 103 l e (λ q. omega (arith, q)) same)
no_flag (Message.Replace h o t p v s) l e same = refl
no_flag (Message.Imbalance h s) l e same = refl
no_flag (Message.NonDisplayed h t p v s) l e same = absurd (at_row (λ (l : Layout). l.flag ≢ l.side) 110 l e (λ q. omega (arith, q)) same)
no_flag (Message.Cross h c p v s) l e same = refl
no_flag (Message.TradeCancel h t) l e same = refl
no_flag (Message.CrossCorrection h c v) l e same = refl
no_flag (Message.Retail h c) l e same = refl
no_flag (Message.Clear h s) l e same = refl
no_flag (Message.Status h s) l e same = refl

pub message_first : (market : Market) (m : Message) (plain : List ℕ) (l : Layout) → shape_of (type_of m) ≡ Some l → (n : ℕ) → fault_of market l (fields_of m) (array_of l plain) ≡ Some n → FirstBad market l (fields_of m) (array_of l plain) n
message_first market m plain l known n e =
    first_bad_lem market l (fields_of m) (array_of l plain) (layout_sane (type_of m) l known) (by_rows HasVolume table_volumes (type_of m) l known) (no_flag m l known) n e
