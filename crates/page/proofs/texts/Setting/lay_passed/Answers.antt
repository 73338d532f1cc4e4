-- By the answer, by what was read and by its type: each case is one law of the printout, whatever the view is that tells the name.
use Rattle.std.proofs.Common.{ℕ, [], sym, ap, ◌∙◌, arith}
use Rattle.wire.specs.Reading.{Read}
use Rattle.book.specs.Registering.{told_in}
use Rattle.symbols.specs.declared.registering.Listing.{Listing}
use Rattle.columns.specs.Columns.{rendered}
use Rattle.page.specs.Columns.{listing_of, columns_of}
use Rattle.page.specs.Printout.{refusal, sequence_of}
use Rattle.page.proofs.Printouts.{read_offset, passed_refused, passed_unread, passed_no_line, passed_line}
use Rattle.page.proofs.NotedTexts.{lays_nothing}
use Rattle.page.proofs.texts.Setting.lay_passed.Goals as goal

pub returns-then-answer-ne0 : goal.returns-then-answer-ne0
returns-then-answer-ne0 c = let a = c.args in
    let s = a.self.now in
    record {
      text = c.bytes.result.now;
      short = c.bytes.ensures.fits;
      appends = c.put.ensures;
      told = λ v tells.
          c.bytes.ensures.whole
          ∙ c.refusal_line-refused.ensures
          ∙ ap (λ (o : ℕ). rendered (refusal a.answer o a.place)) (c.offset_of.ensures ∙ read_offset c.decode-read.result ∙ ap (λ (d : Read). d.offset) c.decode-read.ensures.reads)
          ∙ sym (passed_refused s.market v a.message.now a.answer a.place s.second c.if-answer-ne0.true);
    }

pub returns-in_default : goal.returns-in_default
returns-in_default c = let a = c.args in
    let s = a.self.now in
    record {
      text = [];
      short = omega arith;
      appends = lays_nothing _ _;
      told = λ v tells. sym (passed_unread s.market v a.message.now a.answer a.place s.second c.if-answer-ne0.false c.decode-read.result c.decode-read.ensures.reads c.in_default.not-Ok);
    }

pub returns-then-has_no_line : goal.returns-then-has_no_line
returns-then-has_no_line c = let a = c.args in
    let s = a.self.now in
    record {
      text = [];
      short = omega arith;
      appends = lays_nothing _ _;
      told = λ v tells. sym (passed_no_line s.market v a.message.now a.answer a.place s.second c.if-answer-ne0.false c.decode-read.result c.decode-read.ensures.reads c.in-Ok.decoded c.in-Ok.is (cc));
    }

pub returns : goal.returns
returns c = let d = c.in-Ok.decoded in
    let a = c.args in
    let s = a.self.now in
    record {
      text = c.bytes-2.result.now;
      short = c.bytes-2.ensures.fits;
      appends = c.put-2.ensures;
      told = λ v tells.
          c.bytes-2.ensures.whole
          ∙ c.line-line.ensures
          ∙ ap (λ (l : Listing). rendered (columns_of l d.message d.plain (sequence_of a.place) s.second)) (c.listing_of-listing.ensures ∙ ap listing_of (c.told.ensures ∙ tells _ ∙ ap (λ i. told_in i v) c.index_of.ensures))
          ∙ sym (passed_line s.market v a.message.now a.answer a.place s.second c.if-answer-ne0.false c.decode-read.result c.decode-read.ensures.reads d c.in-Ok.is (cc));
    }
