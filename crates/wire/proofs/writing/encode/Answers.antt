-- By the type's layout, the first bad field and the room: each case is one law of writing.
use Rattle.std.specs.Prelude.{Option, Some, None, Err}
use Rattle.std.proofs.lemmas.Result.{err_from_is_err_and}
use mathlib.Core.Path.{◌≡◌, sym, ap, ◌∙◌, subst}
use mathlib.Core.List.{List, ◌++◌}
use Prim.Native.Nat.{ℕ}
use native.Mathlib.Omega.{arith}
use lib.ListN.{length, drop}
use Rattle.markets.specs.declared.Market.{Market}
use Rattle.wire.specs.declared.Message.{Message}
use Rattle.wire.specs.declared.WriteError.{WriteError}
use Rattle.wire.specs.declared.fields.Fields.{Fields}
use Rattle.wire.specs.declared.table.Layout.{Layout}
use Rattle.wire.specs.Outcome.{done, only}
use Rattle.wire.specs.Table.{shape_of}
use Rattle.wire.specs.Message.{fields_of, type_of}
use Rattle.wire.specs.Fields.{array_of, fault_of}
use Rattle.wire.specs.Bytes.{plain_room}
use Rattle.wire.specs.Writing.{Write, leaving, wrote, image_of, write_of}
use Rattle.wire.specs.RoundTrip.{InRange, ReadsBack}
use Rattle.wire.proofs.RoundTrip.{read_what_was_written}
use Rattle.wire.proofs.Layouts.{layout_sane, layout_whole}
use Rattle.wire.proofs.Cases.{write_unknown, write_bad_field, write_good, write_no_room, write_room}
use Rattle.wire.proofs.Checks.{own_fault}
use borrow.Author.Rules.{rules}
use Rattle.wire.proofs.writing.encode.Goals as goal

-- what is written reads back, since its fields are within their types and its array is `plain_room` long
reads : (market : Market) (m : Message) (plain out : List ℕ) {w : Write} → length plain ≡ plain_room → InRange (fields_of m) → w ≡ write_of market m plain out → ReadsBack market m plain w
reads market m plain out long fits e = subst (ReadsBack market m plain) (sym e) (read_what_was_written market m plain out long fits)

-- the layout of the message's type, and the first bad field that its fields and its array have there
known : (m : Message) (shape : Option Layout) {number : ℕ} {found : Option Layout} → number ≡ type_of m → found ≡ shape_of number → found ≡ shape → shape_of (type_of m) ≡ shape
known m shape e f g = ap shape_of (sym e) ∙ sym f ∙ g

fault : (market : Market) (m : Message) (l : Layout) (plain : List ℕ) → shape_of (type_of m) ≡ Some l → {f : Fields} {found answer : Option ℕ}
    → f ≡ fields_of m → found ≡ fault_of market l f plain → found ≡ answer → fault_of market l (fields_of m) (array_of l plain) ≡ answer
fault market m l plain is p q r = own_fault market l (layout_sane _ _ is) (fields_of m) plain ∙ ap (λ (f : Fields). fault_of market l f plain) (sym p) ∙ sym q ∙ r

pub returns-in_err-l : goal.returns-in_err-l
returns-in_err-l c =
    let a = c.args in
    let p = err_from_is_err_and c.from_residual.result c.from_residual.ensures.1 in
    let unknown : c.shape_of.result ≡ None = grind arith in
    let why : c.from_residual.result ≡ Err WriteError.BadType = grind (arith, p.1, p.2) in
    let e = ap (λ w. wrote w a.out.now) why ∙ sym (write_unknown a.market a.m a.plain a.out.now (known a.m None c.type_of-number.ensures c.shape_of.ensures unknown)) in
    record { writes = e; reads_back = reads a.market a.m a.plain a.out.now (search rules) c.from-f.ensures.1 e }

pub fault_of-requires : goal.fault_of-requires
fault_of-requires c =
    let sane = layout_sane _ _ (known c.args.m (Some c.in_ok-l.l) c.type_of-number.ensures c.shape_of.ensures (grind arith)) in
    omega arith

pub returns-in-Some : goal.returns-in-Some
returns-in-Some c =
    let a = c.args in
    let l = c.in_ok-l.l in
    let is = known a.m (Some l) c.type_of-number.ensures c.shape_of.ensures (grind arith) in
    let e = sym (write_bad_field a.market a.m a.plain a.out.now l is c.in-Some.n (fault a.market a.m l a.plain is c.from-f.ensures.0 c.fault_of.ensures c.in-Some.is)) in
    record { writes = e; reads_back = reads a.market a.m a.plain a.out.now (search rules) c.from-f.ensures.1 e }

pub returns-then-out-l : goal.returns-then-out-l
returns-then-out-l c =
    let a = c.args in
    let l = c.in_ok-l.l in
    let is = known a.m (Some l) c.type_of-number.ensures c.shape_of.ensures (grind arith) in
    let good = write_good a.market a.m a.plain a.out.now l is (fault a.market a.m l a.plain is c.from-f.ensures.0 c.fault_of.ensures c.in_default.is) in
    let e = sym (good ∙ write_no_room l.size _ a.out.now c.if-out-l.true) in
    record { writes = e; reads_back = reads a.market a.m a.plain a.out.now (search rules) c.from-f.ensures.1 e }

pub put_message-requires : goal.put_message-requires
put_message-requires c =
    let is = known c.args.m (Some c.in_ok-l.l) c.type_of-number.ensures c.shape_of.ensures (grind arith) in (layout_sane _ _ is, layout_whole _ _ is, c.if-out-l.false)

pub returns : goal.returns
returns c =
    let a = c.args in
    let l = c.in_ok-l.l in
    let is = known a.m (Some l) c.type_of-number.ensures c.shape_of.ensures (grind arith) in
    let good = write_good a.market a.m a.plain a.out.now l is (fault a.market a.m l a.plain is c.from-f.ensures.0 c.fault_of.ensures c.in_default.is) in
    let laid = c.put_message.ensures ∙ (λ j. image_of l (c.type_of-number.ensures j) (c.from-f.ensures.0 j) a.plain ++ drop l.size a.out.now) in
    let e = ap (leaving (only (done l.size))) laid ∙ sym (good ∙ write_room l.size _ a.out.now c.if-out-l.false) in
    record { writes = e; reads_back = reads a.market a.m a.plain a.out.now (search rules) c.from-f.ensures.1 e }
