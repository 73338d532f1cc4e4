-- A deal at place k obeys the rules: what is stored lands on the symbol's own shelf, and no other shelf is touched.
use mathlib.Core.Bool.{Bool, true, false, cond, false≢true}
use mathlib.Core.List.{List}
use mathlib.Core.Option.{Option, none, some}
use mathlib.Core.Path.{◌≡◌, refl, sym, subst, ap, ◌∙◌}
use Prim.Native.Nat.{ℕ, ◌*◌, ◌<◌, ◌≤◌}
use native.Mathlib.Omega.{arith}
use borrow.Author.Tests.{lt-ltb, le-ltb}
use borrow.Rule.Slice.PartMut.{put_mid, put_same, set_mid_at}
use lib.Dec.{ltb}
use lib.ListN.{length, get_or, take, drop}
use Rattle.std.specs.Prelude.{Result, ⊤, is_err}
use Rattle.std.specs.List.{take-map, drop-map}
use Rattle.places.specs.Places.{symbols, shelf, on_shelf, placed_in, spot_in, Lands}
use Rattle.places.specs.Tickets.{ticket}
use Rattle.places.specs.Shelving.{Shelved, Reshelved}
use Rattle.places.proofs.EightShelves.{nothing_past, shelf_reach}
use Rattle.places.proofs.Shelves.{shelf_length}
use Rattle.places.proofs.Ticketing.{as_many_tickets, ticketed_at_spot}
use Rattle.places.proofs.Landing.{lands_nowhere, stored_at_spot}
use Rattle.places.proofs.Shelving.{reshelved, own_shelf}
use Rattle.record.specs.State.{trades_each, crosses_each, no_trade, no_cross, trade_number, trade_live, cross_number, cross_live, nothing_kept, kept_at, Wf}
use Rattle.record.specs.Rules.{deal_to, after, cross_to, crossed_as, kept_after, lost_by, either}
use Rattle.record.specs.Deciding.{Sound, Stored, stored, left_out, stored_at, AtSpots}
use Rattle.record.specs.Promises.{Obeys, Deals}
use Rattle.record.specs.declared.Trade.{Trade}
use Rattle.record.specs.declared.Cross.{Cross}
use Rattle.record.specs.declared.Record.{Record}
use Rattle.record.specs.declared.Deal.{Deal}
use Rattle.record.specs.declared.Lost.{Lost}

-- what is live after what was to be, and whether nothing was
abbrev pub after_by : {A : Type 0} → List A → Option (List A) → List A
after_by l none = l
after_by l (some m) = m

abbrev pub nothing_by : {A : Type 0} → Option (List A) → Bool
nothing_by none = true
nothing_by (some m) = false

-- ---- a shelf lent, changed and given back. d is the empty element
module _ {A : Type 0} (key : A → ℕ) (live : A → Bool) (n : ℕ) (l : List A) (ts : List ℕ) (k : ℕ) where
  -- where nothing was stored all is as it was
  pub untouched : (a : A) (to-be : Option (List A)) (m : List A) (us : List ℕ) (r : Result ⊤ Lost) → Stored key live (shelf n k l) (shelf n k ts) a to-be m us r → is_err r ≡ true
      → (put_mid (k * n) n l m ≡ l) × (put_mid (k * n) n ts us ≡ ts)
  untouched a to-be m us r (stored i h s) e = absurd (false≢true e)
  untouched a to-be m us r (left_out s) e = (put_same (k * n) n l, put_same (k * n) n ts)

  module _ (h : k < symbols) (w : Shelved key live n l ts) (d : A) (dead : live d ≡ false) where
    long : length (shelf n k l) ≡ n
    long = shelf_length n k l (shelf_reach n k l w.long h)

    sound : Sound key live (shelf n k l) (shelf n k ts)
    sound = record {
      shelf = rw long (own_shelf key live n l ts w k h);
      ticketed = ap (shelf n k) w.ticketed ∙ ap (take n) (drop-map (ticket key live) (k * n) l) ∙ take-map (ticket key live) n (drop (k * n) l);
    }

    -- back in its list the shelf has one place changed, or none
    pub record Back (now-live : List A) (m : List A) (us : List ℕ) : Type 0 where
      pub place : ℕ
      pub element : A
      pub lands : Lands key live n (shelf n k l) place element now-live
      pub places : m ≡ placed_in n k l place element
      pub tickets : us ≡ placed_in n k ts place (ticket key live element)

    pub as_it_was : Back (on_shelf key live n l k) l ts
    as_it_was = record {
      place = n;
      element = d;
      lands = lands_nowhere key live d dead n (shelf n k l) (own_shelf key live n l ts w k h) d;
      places = rw (le-ltb n n (omega arith)) refl;
      tickets = rw (le-ltb n n (omega arith)) refl;
    }

    pub record Settled (to-be : Option (List A)) (m : List A) (us : List ℕ) (r : Result ⊤ Lost) : Type 0 where
      pub lost : is_err r ≡ nothing_by to-be
      pub back : Back (after_by (on_shelf key live n l k) to-be) (put_mid (k * n) n l m) (put_mid (k * n) n ts us)

    pub settled : (a : A) (to-be : Option (List A)) (m : List A) (us : List ℕ) (r : Result ⊤ Lost) → Stored key live (shelf n k l) (shelf n k ts) a to-be m us r → Settled to-be m us r
    settled a to-be m us r (left_out s) = rw (s sound) record { lost = refl; back = rw (put_same (k * n) n l, put_same (k * n) n ts) as_it_was }
    settled a to-be m us r (stored i g s) =
        let now = s sound in
        let within : i < n = (rw long at g) in
        rw now.1 record {
          lost = refl;
          back = record {
            place = i;
            element = a;
            lands = rw long at now.2;
            places = rw (lt-ltb i n within) (set_mid_at (k * n) n i l a g);
            tickets = rw (lt-ltb i n within) (set_mid_at (k * n) n i ts (ticket key live a) (rw (as_many_tickets key live (shelf n k l) (shelf n k ts) sound.ticketed) g));
          };
        }

module _ (b : Record) (k : ℕ) (d : Deal) where
  -- what the rules say, once it is stored, obeys them
  pub stored_obeys : Wf b → (i : ℕ) (t : Trade) (j : ℕ) (x : Cross) (m : Record) → AtSpots b k i t j x m
      → Lands trade_number trade_live trades_each (shelf trades_each k b.places) i t (kept_after (kept_at b k) d).trades
      → Lands cross_number cross_live crosses_each (shelf crosses_each k b.crosses) j x (kept_after (kept_at b k) d).crosses
      → (lost : Bool) → lost ≡ lost_by (kept_at b k) d → Obeys b k d (record { trades = m; lost = lost })
  unfolding kept_at
  stored_obeys w i t j x m s p q lost e =
      let u : Reshelved trade_number trade_live trades_each b.places k (kept_after (kept_at b k) d).trades m.places m.tickets =
      rw (s.trade_is, s.ticket_is) (reshelved trade_number trade_live trades_each b.places b.tickets w.trades k i t _ p) in
      let v : Reshelved cross_number cross_live crosses_each b.crosses k (kept_after (kept_at b k) d).crosses m.crosses m.stubs =
      rw (s.cross_is, s.stub_is) (reshelved cross_number cross_live crosses_each b.crosses b.stubs w.crosses k j x _ q) in
      record {
        wf = record { trades = u.shelved; crosses = v.shelved };
        own = λ i. record { trades = u.own i; crosses = v.own i };
        lost = e;
        others = λ j ne i. record { trades = u.others j ne i; crosses = v.others j ne i };
      }

  pub deals_nothing : symbols ≤ k → Deals b k d (record { trades = b; lost = true })
  deals_nothing past = record { kept = λ e. refl; outside = λ o. refl; obeys = λ h w. absurd (omega (arith, past, h)) }

-- ---- a deal that changes the trades alone, or the crosses alone, each with its own arrays of the record and its own rule. e is how many places were lent
either_false : (t : Bool) → t ≡ either t false
either_false true = refl
either_false false = refl

module _ (b : Record) (k : ℕ) (d : Deal) (h : k < symbols) where
  -- both shelves back in the record
  settles : (lost : Bool) (m : Record) → (w : Wf b) → lost ≡ lost_by (kept_at b k) d
      → Back trade_number trade_live trades_each b.places b.tickets k h w.trades no_trade refl (kept_after (kept_at b k) d).trades m.places m.tickets
      → Back cross_number cross_live crosses_each b.crosses b.stubs k h w.crosses no_cross refl (kept_after (kept_at b k) d).crosses m.crosses m.stubs
      → Obeys b k d (record { trades = m; lost = lost })
  settles lost m w e t x = stored_obeys b k d w t.place t.element x.place x.element m (record { trade_is = t.places; ticket_is = t.tickets; cross_is = x.places; stub_is = x.tickets }) t.lands x.lands lost e

  module _ (x : Trade) (rule : List Trade → Option (List Trade)) (m : List Trade) (us : List ℕ) (r : Result ⊤ Lost) where
    abbrev TradesStored : ℕ → Type 0
    TradesStored e = Stored trade_number trade_live (take e (drop (k * trades_each) b.places)) (take e (drop (k * trades_each) b.tickets)) x (rule (take e (drop (k * trades_each) b.places))) m us r

    abbrev TradesDealt : ℕ → Type 0
    TradesDealt e = Deals b k d (record {
      trades = record { places = put_mid (k * trades_each) e b.places m; tickets = put_mid (k * trades_each) e b.tickets us; crosses = b.crosses; stubs = b.stubs };
      lost = is_err r;
    })

    module _ (leaves : cross_to (kept_at b k).crosses d ≡ crossed_as (kept_at b k).crosses false)
        (rules : length (shelf trades_each k b.places) ≡ trades_each → deal_to (kept_at b k).trades d ≡ after (after_by (kept_at b k).trades (rule (shelf trades_each k b.places))) (nothing_by (rule (shelf trades_each k b.places)))) where
      trades_obey : TradesStored trades_each → TradesDealt trades_each
      unfolding kept_at
      trades_obey s = record {
        kept = λ e. let u = untouched trade_number trade_live trades_each b.places b.tickets k x _ m us r s e in λ i. record { places = u.0 i; tickets = u.1 i; crosses = b.crosses; stubs = b.stubs };
        outside = λ o. absurd (omega (arith, o, h));
        obeys = λ g w.
            let t = settled trade_number trade_live trades_each b.places b.tickets k h w.trades no_trade refl x _ m us r s in
            let q = rules (long trade_number trade_live trades_each b.places b.tickets k h w.trades no_trade refl) in
            settles _ _ w (rw (q, leaves) (t.lost ∙ either_false _)) (rw q t.back) (rw leaves (as_it_was cross_number cross_live crosses_each b.crosses b.stubs k h w.crosses no_cross refl));
      }

      pub trades_dealt : (e : ℕ) → e ≡ trades_each → TradesStored e → TradesDealt e
      trades_dealt e lent = subst (λ (e : ℕ). TradesStored e → TradesDealt e) (sym lent) trades_obey

  module _ (x : Cross) (rule : List Cross → Option (List Cross)) (m : List Cross) (us : List ℕ) (r : Result ⊤ Lost) where
    abbrev CrossesStored : ℕ → Type 0
    CrossesStored e = Stored cross_number cross_live (take e (drop (k * crosses_each) b.crosses)) (take e (drop (k * crosses_each) b.stubs)) x (rule (take e (drop (k * crosses_each) b.crosses))) m us r

    abbrev CrossesDealt : ℕ → Type 0
    CrossesDealt e = Deals b k d (record {
      trades = record { places = b.places; tickets = b.tickets; crosses = put_mid (k * crosses_each) e b.crosses m; stubs = put_mid (k * crosses_each) e b.stubs us };
      lost = is_err r;
    })

    module _ (leaves : deal_to (kept_at b k).trades d ≡ after (kept_at b k).trades false)
        (rules : length (shelf crosses_each k b.crosses) ≡ crosses_each → cross_to (kept_at b k).crosses d ≡ crossed_as (after_by (kept_at b k).crosses (rule (shelf crosses_each k b.crosses))) (nothing_by (rule (shelf crosses_each k b.crosses)))) where
      crosses_obey : CrossesStored crosses_each → CrossesDealt crosses_each
      unfolding kept_at
      crosses_obey s = record {
        kept = λ e. let u = untouched cross_number cross_live crosses_each b.crosses b.stubs k x _ m us r s e in λ i. record { places = b.places; tickets = b.tickets; crosses = u.0 i; stubs = u.1 i };
        outside = λ o. absurd (omega (arith, o, h));
        obeys = λ g w.
            let t = settled cross_number cross_live crosses_each b.crosses b.stubs k h w.crosses no_cross refl x _ m us r s in
            let q = rules (long cross_number cross_live crosses_each b.crosses b.stubs k h w.crosses no_cross refl) in
            settles _ _ w (rw (q, leaves) t.lost) (rw leaves (as_it_was trade_number trade_live trades_each b.places b.tickets k h w.trades no_trade refl)) (rw q t.back);
      }

      pub crosses_dealt : (e : ℕ) → e ≡ crosses_each → CrossesStored e → CrossesDealt e
      crosses_dealt e lent = subst (λ (e : ℕ). CrossesStored e → CrossesDealt e) (sym lent) crosses_obey

-- past the eighth symbol nothing is kept
pub none_past : (b : Record) (k : ℕ) → length b.places ≡ symbols * trades_each → length b.crosses ≡ symbols * crosses_each → symbols ≤ k → kept_at b k ≡ nothing_kept
unfolding kept_at
none_past b k size sized h = λ i. record {
  trades = nothing_past trade_number trade_live trades_each b.places k size h i;
  crosses = nothing_past cross_number cross_live crosses_each b.crosses k sized h i;
}

-- nothing comes to it
pub nothing_comes : (b : Record) (k : ℕ) → Wf b → Obeys b k Deal.Nothing (record { trades = b; lost = false })
unfolding deal_to
nothing_comes b k w = record { wf = w; own = refl; lost = refl; others = λ m ne. refl }

pub nothing_dealt : (b : Record) (k : ℕ) → k < symbols → Deals b k Deal.Nothing (record { trades = b; lost = false })
nothing_dealt b k h = record { kept = λ e. absurd (false≢true e); outside = λ o. absurd (omega (arith, o, h)); obeys = λ g w. nothing_comes b k w }

-- ---- stored at the spots of two places: what is to lie there, or again what lies there where the place is none
module _ (b : Record) (k : ℕ) (h : k < symbols) (w : Wf b) (i : ℕ) (t : Trade) (j : ℕ) (x : Cross) where
  abbrev slot : ℕ
  slot = spot_in trades_each k i

  abbrev corner : ℕ
  corner = spot_in crosses_each k j

  abbrev at_slot : Trade
  at_slot = cond (ltb i trades_each) t (get_or b.places slot no_trade)

  abbrev at_corner : Cross
  at_corner = cond (ltb j crosses_each) x (get_or b.crosses corner no_cross)

  pub stored_in : AtSpots b k i t j x (stored_at b slot at_slot (ticket trade_number trade_live at_slot) corner at_corner (ticket cross_number cross_live at_corner))
  stored_in = record {
    trade_is = stored_at_spot trades_each k h b.places i t no_trade;
    ticket_is = ticketed_at_spot trade_number trade_live trades_each k h b.places b.tickets i t no_trade w.trades.ticketed;
    cross_is = stored_at_spot crosses_each k h b.crosses j x no_cross;
    stub_is = ticketed_at_spot cross_number cross_live crosses_each k h b.crosses b.stubs j x no_cross w.crosses.ticketed;
  }
