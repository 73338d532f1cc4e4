-- Document 01's marked case L and the worked cases of the page, by computation.
use Rattle.std.proofs.Common.{◌≡◌, ℕ, ◌≤◌, List, ◌++◌, length, drop, refl, ap, ◌∙◌}
use Rattle.wire.specs.Outcome.{done, only}
use Rattle.wire.specs.Writing.{leaving, refuse}
use Rattle.wire.specs.Message.{fault_in}
use Rattle.wire.specs.Table.{shape_of}
use Rattle.markets.specs.declared.Market.{Market}
use Rattle.wire.specs.Fields.{first_bad, fault_of}
use Rattle.columns.specs.Text.{fixed, digits_by, digits, priced, timed}
use Rattle.columns.specs.Columns.{rendered}
use Rattle.page.specs.Columns.{listing_of, columns_of}
use Rattle.page.specs.Marked.{ascii, abc, add, firm, line_l, sequence_l, second_l}
use Rattle.page.specs.Printing.{has_no_line, laid, line_by, line_of}
use Rattle.page.proofs.Cases.{laid_fits}

line_l_lem : rendered (columns_of (listing_of abc) add firm sequence_l second_l) ≡ line_l
unfolding rendered fixed digits_by digits priced timed
line_l_lem = refl

-- the line, with its line feed, in any buffer that has room for it
pub case_l : (market : Market) (out : List ℕ) → length line_l ≤ length out → line_of market abc add firm sequence_l second_l out ≡ leaving (only (done (length line_l))) (line_l ++ drop (length line_l) out)
unfolding line_of line_by has_no_line fault_in shape_of fault_of first_bad
case_l market out h = ap (λ x. laid x out) line_l_lem ∙ laid_fits line_l out h

pub price_5_at_scale_4 : priced 4 5 ≡ ascii "0.0005"
unfolding fixed digits_by digits priced
price_5_at_scale_4 = refl

pub price_5_at_scale_0 : priced 0 5 ≡ ascii "5"
unfolding fixed digits_by digits priced
price_5_at_scale_0 = refl

pub last_second_prints : timed 86399 999999999 ≡ ascii "23:59:59.999999999"
unfolding fixed timed
last_second_prints = refl

pub second_86400_is_refused : (market : Market) (out : List ℕ) → line_of market abc add firm sequence_l 86400 out ≡ refuse 14 out
unfolding line_of line_by has_no_line fault_in shape_of fault_of first_bad
second_86400_is_refused market out = refl
