-- The quote and the scale are what the book promises of its view.
use Rattle.std.proofs.Common.{◌≡◌, ℕ, ◌≤◌, List, ◌++◌, length, ap, ◌∙◌, subst}
use Rattle.book.specs.declared.Book.{Book}
use Rattle.book.specs.declared.quote.Quote.{Quote}
use Rattle.book.specs.Registering.{told_in}
use Rattle.book.specs.Quote.{quote_of}
use Rattle.book.specs.State.{view}
use Rattle.columns.specs.Held.{room}
use Rattle.page.specs.Columns.{listing_of}
use Rattle.page.specs.Printing.{laid}
use Rattle.symbols.specs.declared.registering.Listing.{Listing}
use Rattle.page.specs.Printout.{end_text, quote_text, closing}
use Rattle.page.proofs.laying.lay_end.Goals as goal

-- what the book was asked is what is printed of its view
text_is : (b : Book) (index answer : ℕ) {s : Listing} {q : Quote} → s ≡ listing_of (told_in index (view b)) → q ≡ quote_of index (view b) → end_text answer ++ quote_text s.scale q ≡ closing (view b) index answer
unfolding closing
text_is b index answer told quoted = λ i. end_text answer ++ quote_text (ap (λ (s : Listing). s.scale) told i) (quoted i)

pub returns : goal.returns
returns c =
    let a = c.args in
    let e = c.bytes.ensures.whole ∙ c.end_lines-text.ensures ∙ text_is a.book a.index a.answer (c.listing_of-s.ensures ∙ ap listing_of c.symbol.ensures) c.quote.ensures in
    record { out_after = c.emit.ensures ∙ ap (λ (x : List ℕ). laid x a.out.now) e; fits = subst (λ (x : List ℕ). length x ≤ room) e c.bytes.ensures.fits }
