-- The depth and the scale are what the book promises of its view, and the text is the first bytes of its own buffer.
use Rattle.std.proofs.Common.{◌≡◌, ℕ, ◌≤◌, List, length, ap, ◌∙◌, subst}
use Rattle.symbols.specs.declared.registering.Listing.{Listing}
use Rattle.book.specs.declared.Book.{Book}
use Rattle.book.specs.declared.depth.Depth.{Depth}
use Rattle.book.specs.Registering.{told_in}
use Rattle.book.specs.Depth.{depth_of}
use Rattle.book.specs.State.{view}
use Rattle.page.specs.Columns.{listing_of}
use Rattle.page.specs.Printing.{laid}
use Rattle.page.specs.Levels.{depth_text, levels_text, levels_room}
use Rattle.page.proofs.Cases.{appends_first}
use Rattle.page.proofs.levels.lay_levels.Goals as goal

-- what the book was asked is what is printed of its view
text_is : (b : Book) (index : ℕ) {s : Listing} {d : Depth} → s ≡ listing_of (told_in index (view b)) → d ≡ depth_of index (view b) → depth_text s.scale d ≡ levels_text (view b) index
unfolding levels_text
text_is b index told deep = λ i. depth_text (ap (λ (s : Listing). s.scale) told i) (deep i)

pub returns : goal.returns
returns c =
    let a = c.args in
    let e = text_is a.book a.index (c.listing_of-s.ensures ∙ ap listing_of c.symbol.ensures) c.depth.ensures in
    let n = c.lay_depth-n.ensures in
    record { out_after = c.emit.ensures ∙ ap (λ (x : List ℕ). laid x a.out.now) (appends_first n.appends ∙ e); fits = subst (λ (x : List ℕ). length x ≤ levels_room) e n.fits }
