-- A question about an index is answered from the symbol at its place, or from none.
use mathlib.Core.Bool.{Bool, true, false}
use mathlib.Core.Option.{none, map}
use mathlib.Core.Path.{◌≡◌, refl, sym, ap, ◌∙◌}
use Rattle.std.specs.Prelude as code
use Rattle.std.specs.Prelude.{Err}
use Prim.Native.Nat.{ℕ, ◌<◌, ◌≤◌}
use Rattle.places.specs.Places.{symbols}
use Rattle.places.proofs.EightShelves.{by_place}
use Rattle.symbols.specs.State.{entries, itself, place_of, found_in}
use Rattle.symbols.specs.Turns.{standing_of}
use Rattle.symbols.specs.Registering.{told_of}
use Rattle.symbols.specs.declared.Standing.{Standing}
use Rattle.symbols.specs.declared.registering.Listing.{Listing}
use Rattle.symbols.proofs.Entries.{length_entries}
use Rattle.symbols.proofs.Finding.{missing}
use Rattle.record.specs.Rules.{shares_of}
use Rattle.book.specs.State.{entry_at, orders_at, record_at, symbol_of, view, entry_of, place_in, symbol_in}
use Rattle.book.specs.Registering.{told_in}
use Rattle.book.specs.Quote.{no_quote, quoted_if, quoted, quote_of, volume_in, volume_of}
use Rattle.book.specs.Depth.{no_depth, depth_if, depth_by, depth_of}
use Rattle.book.specs.Showing as showing
use Rattle.book.specs.Showing.{hidden_number, Shows}
use Rattle.book.specs.declared.Book.{Book}
use Rattle.book.specs.declared.quote.Hidden.{Hidden}
use Rattle.book.proofs.Views.{place_is, symbol_missing, SymbolAt, symbol_at}

-- the symbols were asked for the place of an index: nobody is there
pub nobody : (b : Book) (index : ℕ) → symbols ≤ place_of itself index (entries b.symbols) → symbol_in index (view b) ≡ none
nobody b index h = symbol_missing b index (rw (place_is b index) at h)

module _ (b : Book) (index k : ℕ) (place : k ≡ place_of itself index (entries b.symbols)) where
  is : k ≡ place_in index (view b)
  is = place ∙ place_is b index

  -- and then for where it stands
  module _ (h : k < symbols) (s : Standing) (standing : s ≡ standing_of (entry_at b k)) where
    at_k : SymbolAt b index k
    at_k = symbol_at b index k is h

    stands : s ≡ at_k.entry.standing
    unfolding standing_of
    stands = standing ∙ ap standing_of at_k.at

    pub stale : s.stale ≡ true → showing.Standing b index true
    stale e = record { symbol = symbol_of at_k.entry (orders_at b k) (record_at b k); there = at_k.there; stands = sym (ap (λ (x : Standing). x.stale) stands) ∙ e }

    pub shown_at : s.stale ≡ false → showing.ShownAt b index k
    shown_at e = record { standing = record { symbol = symbol_of at_k.entry (orders_at b k) (record_at b k); there = at_k.there; stands = sym (ap (λ (x : Standing). x.stale) stands) ∙ e }; orders = refl }

    pub volume_at_lem : record { answer = 0; shares = shares_of (record_at b k); whole = s.whole } ≡ volume_of index (view b)
    unfolding volume_of
    volume_at_lem = sym (ap volume_in at_k.there ∙ ap (λ (x : Standing). record { answer = 0; shares = shares_of (record_at b k); whole = x.whole }) (sym stands))

-- ---- nobody has a volume there
pub volume_missing : (b : Book) (index : ℕ) → symbol_in index (view b) ≡ none → record { answer = 5; shares = 0; whole = false } ≡ volume_of index (view b)
unfolding volume_of
volume_missing b index h = sym (ap volume_in h)

-- ---- quote and depth, by whether they are given
module _ (b : Book) (index : ℕ) where
  pub quote_hidden : (why : Hidden) → Shows b index (Err why) → no_quote (hidden_number why) ≡ quote_of index (view b)
  unfolding quote_of
  quote_hidden Hidden.Unknown h = sym (ap quoted h)
  quote_hidden Hidden.Stale h = sym (ap quoted h.there ∙ ap (λ (t : Bool). quoted_if t h.symbol.orders) h.stands)

  pub depth_hidden : (why : Hidden) → Shows b index (Err why) → no_depth (hidden_number why) ≡ depth_of index (view b)
  unfolding depth_of
  depth_hidden Hidden.Unknown h = sym (ap depth_by h)
  depth_hidden Hidden.Stale h = sym (ap depth_by h.there ∙ ap (λ (t : Bool). depth_if t h.symbol.orders) h.stands)

  module _ (k : ℕ) (h : showing.ShownAt b index k) where
    pub quote_shown : quoted_if false (orders_at b k) ≡ quote_of index (view b)
    unfolding quote_of
    quote_shown = sym (ap quoted h.standing.there ∙ ap (λ (t : Bool). quoted_if t h.standing.symbol.orders) h.standing.stands ∙ ap (quoted_if false) h.orders)

    pub depth_shown : depth_if false (orders_at b k) ≡ depth_of index (view b)
    unfolding depth_of
    depth_shown = sym (ap depth_by h.standing.there ∙ ap (λ (t : Bool). depth_if t h.standing.symbol.orders) h.standing.stands ∙ ap (depth_if false) h.orders)

module _ (b : Book) (index : ℕ) where
  -- the entry found is that of the symbol found
  same_entry : found_in itself index (entries b.symbols) ≡ map entry_of (symbol_in index (view b))
  unfolding found_in
  same_entry = by_place (place_of itself index (entries b.symbols))
      (λ h. let f = symbol_at b index (place_of itself index (entries b.symbols)) (place_is b index) h in f.at ∙ sym (ap (map entry_of) f.there))
      (λ h. missing itself (entries b.symbols) index (rw (length_entries b.symbols) h) ∙ sym (ap (map entry_of) (symbol_missing b index (rw (place_is b index) at h))))

  pub tells : (r : code.Option Listing) → r ≡ told_of (found_in itself index (entries b.symbols)) → r ≡ told_in index (view b)
  unfolding told_in
  tells r t = t ∙ ap told_of same_entry
