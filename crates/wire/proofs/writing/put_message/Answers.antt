-- The numbers, the array and the last byte, laid over their parts in turn, are the bytes of the message (`laid_in_turn`).
use Rattle.wire.proofs.Laying.{laid_in_turn}
use mathlib.Core.List.{[], ◌∷◌}
use mathlib.Core.Logic.{inl}
use mathlib.Core.Path.{sym}
use native.Mathlib.Omega.{arith}
use lib.Seq.{length-take-le}
use borrow.Author.Rules.{rules}
use Rattle.wire.proofs.writing.put_message.Goals as goal

pub slice_bounds-lay-end-2 : goal.slice_bounds-lay-end-2
slice_bounds-lay-end-2 c = sym (length-take-le 2 c.args.out.now (omega (arith, c.requires)))

pub lay-requires : goal.lay-requires
lay-requires c = inl (length-take-le 2 c.args.out.now (omega (arith, c.requires)))

pub returns : goal.returns
returns c = let a = c.args in
    laid_in_turn a.l c.requires.0 a.out.now a.plain a.number a.f c.requires.2 (search rules)
    (c.lay.new.field ∷ c.lay-2.new.field ∷ c.lay-3.new.field ∷ c.lay-4.new.field ∷ c.lay-5.new.field ∷ c.lay-6.new.field ∷ c.lay-7.new.field ∷ c.lay-8.new.field
    ∷ c.lay-9.new.field ∷ c.lay-10.new.field ∷ c.lay-11.new.field ∷ c.lay-12.new.field ∷ c.lay-13.new.field ∷ c.lay-14.new.field ∷ c.lay-15.new.field ∷ [])
    c.put_plain.new.field c.lay-16.new.field (
      c.lay.ensures,
      (
        c.lay-2.ensures,
        (
          c.lay-3.ensures,
          (
            c.lay-4.ensures,
            (
              c.lay-5.ensures,
              (
                c.lay-6.ensures,
                (
                  c.lay-7.ensures,
                  (
                    c.lay-8.ensures,
                    (c.lay-9.ensures, (c.lay-10.ensures, (c.lay-11.ensures, (c.lay-12.ensures, (c.lay-13.ensures, (c.lay-14.ensures, (c.lay-15.ensures, tt))))))),
                  ),
                ),
              ),
            ),
          ),
        ),
      ),
    )
    c.put_plain.ensures c.lay-16.ensures
