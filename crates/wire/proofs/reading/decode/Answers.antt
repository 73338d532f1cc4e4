-- By how far the message reaches, its type, its size and its first bad field: each case is one law of reading. What was read of the array is its own bytes again.
use Rattle.std.specs.Prelude.{Option, Some, None, Err}
use Rattle.std.specs.List.{between}
use Rattle.std.proofs.lemmas.Slice.{between_is}
use Rattle.std.proofs.lemmas.Result.{err_from_is_err_and}
use mathlib.Core.Path.{◌≡◌, sym, ap, ◌∙◌, subst}
use mathlib.Core.List.{List}
use Prim.Native.Nat.{ℕ, ◌<◌, ◌≤◌}
use native.Mathlib.Omega.{arith}
use lib.ListN.{get_or, length}
use lib.Seq.{length-slice}
use Rattle.wire.specs.declared.table.Layout.{Layout}
use Rattle.wire.specs.Bytes.{value, padded_plain}
use Rattle.wire.proofs.Numbers.{value_part}
use Rattle.markets.specs.declared.Market.{Market}
use Rattle.wire.specs.declared.ReadError.{ReadError}
use Rattle.wire.specs.Outcome.{done, only}
use Rattle.wire.specs.Table.{shape_of}
use Rattle.wire.specs.Message.{message_of}
use Rattle.wire.specs.Reading.{Read, read_as, read_of, read_body, reach_of, decoded_as, msg_type}
use Rattle.wire.specs.Fields.{fields_at, array_at, fault_of}
use Rattle.wire.specs.declared.fields.Fields.{Fields}
use Rattle.wire.specs.RoundTrip.{WritesBack}
use Rattle.wire.proofs.Layouts.{layout_sane, layout_whole}
use Rattle.wire.proofs.ByteArrays.{fault_read}
use Rattle.wire.proofs.RoundTrip.{write_what_was_read}
use Rattle.wire.proofs.Cases.{reached, read_stopped, read_reached_lem, read_unknown, read_other_size, read_size, read_bad_field, read_good}
use Rattle.wire.proofs.reading.decode.Goals as goal

-- what is read writes back, since the elements of a slice are bytes
writes : (market : Market) (s : List ℕ) {r : Read} → ((i : ℕ) → get_or s i 0 < 256) → r ≡ read_of market s → WritesBack market s r
writes market s bytes e = subst (WritesBack market s) (sym e) (write_what_was_read market s (λ i. bytes i))

-- the layout of the type number, which is that of the two bytes behind Msg Size
known : (s : List ℕ) (shape : Option Layout) {number : ℕ} {found : Option Layout} → number ≡ value (between 2 4 s) → found ≡ shape_of number → found ≡ shape → shape_of (msg_type s) ≡ shape
known s shape e f g = ap shape_of (sym (e ∙ value_part s 2 4)) ∙ sym f ∙ g

-- of a known type and size its body is read, with the first bad field that was found
module _ (market : Market) (s : List ℕ) (size : ℕ) (reaches : reach_of s ≡ done size) (l : Layout) (is : shape_of (msg_type s) ≡ Some l) (same : size ≡ l.size) where
  body : read_of market s ≡ read_body market s l
  body = read_reached_lem market s size reaches ∙ read_size market s size l is same

  fault : {f : Fields} {plain : List ℕ} {found answer : Option ℕ} → f ≡ fields_at s l → plain ≡ padded_plain (array_at s l) → found ≡ fault_of market l f plain → found ≡ answer
      → fault_of market l (fields_at s l) (array_at s l) ≡ answer
  fault {f = f} {plain = plain} p q e g = sym (fault_read market s l (layout_sane _ _ is) (omega (arith, (reached s size reaches).there, same)) f plain p q) ∙ sym e ∙ g

pub returns-in_err-size : goal.returns-in_err-size
returns-in_err-size c =
    let a = c.args in
    let p = err_from_is_err_and c.from_residual.result c.from_residual.ensures.1 in
    let e = ap decoded_as (p.1 ∙ ap Err p.2) ∙ read_stopped a.market a.s.now c.in_err-size.field-0.0 c.in_err-size.ensures in
    record { reads = e; writes_back = writes a.market a.s.now (λ i. omega (arith, c.type_inv.s i)) e }

pub returns-in_err-l : goal.returns-in_err-l
returns-in_err-l c =
    let a = c.args in
    let p = err_from_is_err_and c.from_residual-in_err-l.result c.from_residual-in_err-l.ensures.1 in
    let unknown : c.shape_of.result ≡ None = grind arith in
    let why : c.from_residual-in_err-l.result ≡ Err ReadError.BadType = grind (arith, p.1, p.2) in
    let e = ap decoded_as why ∙ sym (read_reached_lem a.market a.s.now c.in_ok-size.size (sym c.in_ok-size.ensures) ∙ read_unknown a.market a.s.now c.in_ok-size.size (known a.s.now None c.of.ensures c.shape_of.ensures unknown)) in
    record { reads = e; writes_back = writes a.market a.s.now (λ i. omega (arith, c.type_inv.s i)) e }

pub returns-then-size-l : goal.returns-then-size-l
returns-then-size-l c =
    let a = c.args in
    let e = sym (read_reached_lem a.market a.s.now c.in_ok-size.size (sym c.in_ok-size.ensures) ∙ read_other_size a.market a.s.now c.in_ok-size.size c.in_ok-l.l (known a.s.now (Some c.in_ok-l.l) c.of.ensures c.shape_of.ensures (grind arith)) (λ e. omega arith)) in
    record { reads = e; writes_back = writes a.market a.s.now (λ i. omega (arith, c.type_inv.s i)) e }

pub fields_at-f-requires : goal.fields_at-f-requires
fields_at-f-requires c =
    let is = known c.args.s.now (Some c.in_ok-l.l) c.of.ensures c.shape_of.ensures (grind arith) in
    let r = reached c.args.s.now c.in_ok-size.size (sym c.in_ok-size.ensures) in
    (layout_sane _ _ is, layout_whole _ _ is, omega (arith, r.there, c.if-size-l.false))

pub slice_bounds-of-end : goal.slice_bounds-of-end
slice_bounds-of-end c = let r = reached c.args.s.now c.in_ok-size.size (sym c.in_ok-size.ensures) in omega (arith, r.least, r.there)

pub slice_bounds-plain_at-count : goal.slice_bounds-plain_at-count
slice_bounds-plain_at-count c = (layout_sane _ _ (known c.args.s.now (Some c.in_ok-l.l) c.of.ensures c.shape_of.ensures (grind arith))).pad₀

pub slice_bounds-plain_at-start : goal.slice_bounds-plain_at-start
slice_bounds-plain_at-start c =
    let sane = layout_sane _ _ (known c.args.s.now (Some c.in_ok-l.l) c.of.ensures c.shape_of.ensures (grind arith)) in
    let r = reached c.args.s.now c.in_ok-size.size (sym c.in_ok-size.ensures) in
    omega (arith, sane.pad₀, sane.size₀, r.there, c.if-size-l.false)

pub slice_bounds-plain_at-end : goal.slice_bounds-plain_at-end
slice_bounds-plain_at-end c =
    let sane = layout_sane _ _ (known c.args.s.now (Some c.in_ok-l.l) c.of.ensures c.shape_of.ensures (grind arith)) in
    let r = reached c.args.s.now c.in_ok-size.size (sym c.in_ok-size.ensures) in
    omega (arith, sane.size₀, r.there, c.if-size-l.false)

pub plain_at-plain-requires : goal.plain_at-plain-requires
plain_at-plain-requires c =
    let sane = layout_sane _ _ (known c.args.s.now (Some c.in_ok-l.l) c.of.ensures c.shape_of.ensures (grind arith)) in
    let r = reached c.args.s.now c.in_ok-size.size (sym c.in_ok-size.ensures) in
    let there : c.in_ok-l.l.pad ≤ length c.args.s.now = omega (arith, sane.size₀, r.there, c.if-size-l.false) in
    omega (arith, sane.pad₁, ap length (between_is c.args.s.now c.in_ok-l.l.plain c.in_ok-l.l.pad), length-slice c.in_ok-l.l.plain c.in_ok-l.l.pad c.args.s.now there)

pub fault_of-requires : goal.fault_of-requires
fault_of-requires c =
    let sane = layout_sane _ _ (known c.args.s.now (Some c.in_ok-l.l) c.of.ensures c.shape_of.ensures (grind arith)) in
    omega arith

pub returns-in-Some : goal.returns-in-Some
returns-in-Some c =
    let a = c.args in
    let l = c.in_ok-l.l in
    let is = known a.s.now (Some c.in_ok-l.l) c.of.ensures c.shape_of.ensures (grind arith) in
    let same : c.in_ok-size.size ≡ l.size = omega arith in
    let array = c.plain_at-plain.ensures ∙ ap padded_plain (between_is a.s.now l.plain l.pad) in
    let e = sym (body a.market a.s.now c.in_ok-size.size (sym c.in_ok-size.ensures) l is same
    ∙ read_bad_field a.market a.s.now l c.in-Some.n (fault a.market a.s.now c.in_ok-size.size (sym c.in_ok-size.ensures) l is same c.fields_at-f.ensures array c.fault_of.ensures c.in-Some.is)) in
    record { reads = e; writes_back = writes a.market a.s.now (λ i. omega (arith, c.type_inv.s i)) e }

pub returns : goal.returns
returns c =
    let a = c.args in
    let l = c.in_ok-l.l in
    let is = known a.s.now (Some c.in_ok-l.l) c.of.ensures c.shape_of.ensures (grind arith) in
    let same : c.in_ok-size.size ≡ l.size = omega arith in
    let array = c.plain_at-plain.ensures ∙ ap padded_plain (between_is a.s.now l.plain l.pad) in
    let e = (λ i. read_as (only (done ((c.message_of.ensures ∙ ap (message_of l.kind) c.fields_at-f.ensures) i))) (array i))
    ∙ sym (body a.market a.s.now c.in_ok-size.size (sym c.in_ok-size.ensures) l is same
    ∙ read_good a.market a.s.now l (fault a.market a.s.now c.in_ok-size.size (sym c.in_ok-size.ensures) l is same c.fields_at-f.ensures array c.fault_of.ensures c.in_default.is)) in
    record { reads = e; writes_back = writes a.market a.s.now (λ i. omega (arith, c.type_inv.s i)) e }
