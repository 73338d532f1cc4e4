-- Columns joined after columns are one list of columns joined; eleven types have none, clause by clause.
use Rattle.std.proofs.Common.{◌≡◌, ℕ, List, [], ◌∷◌, ◌++◌, refl, ap, ◌∙◌, subst, append_assoc}
use Rattle.columns.specs.Columns.{Column, number, clock, bytes, shown, next, further, joined}
use Rattle.page.specs.Columns.{name_of, opening, columns_of}
use Rattle.columns.specs.Held.{HoldsText, Adds}
use Rattle.columns.proofs.Holding.{holds_then}
use Rattle.symbols.specs.declared.registering.Listing.{Listing}
use Rattle.wire.specs.declared.Head.{Head}
use Rattle.wire.specs.declared.Message.{Message}
use Rattle.wire.specs.declared.Message.TheVariants.{Add, Modify, Delete, Execute, Replace, Imbalance, NonDisplayed, Cross, TradeCancel, CrossCorrection, Retail, Clear, Status}

pub further_append : (cs ds : List Column) → further cs ++ further ds ≡ further (cs ++ ds)
further_append [] ds = refl
further_append (c ∷ cs) ds = append_assoc (next c) (further cs) (further ds) ∙ ap (λ l. next c ++ l) (further_append cs ds)

joined_append : (c : Column) (cs ds : List Column) → joined (c ∷ cs) ++ further ds ≡ joined (c ∷ (cs ++ ds))
joined_append c cs ds = append_assoc (shown c) (further cs) (further ds) ∙ ap (λ l. shown c ++ l) (further_append cs ds)

-- the columns that every line begins with, and the type's own
pub opening_then : (type : ℕ) (s : Listing) (h : Head) (sequence second : ℕ) (ds : List Column) {a b : List ℕ} →
    HoldsText (joined (opening type s h sequence second)) a → Adds a (further ds) b → HoldsText (joined (opening type s h sequence second ++ ds)) b
opening_then type s h sequence second ds {a} {b} p q =
    subst (λ x. HoldsText x b) (joined_append (number type) (number sequence ∷ clock second h.nanos ∷ bytes (name_of s) ∷ number h.number ∷ []) ds) (holds_then p q)

-- a message that is neither an add nor a cross
pub no_columns : (s : Listing) (m : Message) (plain : List ℕ) (sequence second : ℕ)
    → ((h : Head) (order p volume side : ℕ) → m ≡ Add h order p volume side → ⊥) → ((h : Head) (cross p volume class : ℕ) → m ≡ Cross h cross p volume class → ⊥)
    → columns_of s m plain sequence second ≡ []
no_columns s (Add h order p volume side) plain sequence second not_add not_cross = absurd (not_add h order p volume side refl)
no_columns s (Cross h cross p volume class) plain sequence second not_add not_cross = absurd (not_cross h cross p volume class refl)
no_columns s (Modify h order p volume position side) plain sequence second not_add not_cross = refl
no_columns s (Delete h order) plain sequence second not_add not_cross = refl
no_columns s (Execute h order trade p volume printable) plain sequence second not_add not_cross = refl
no_columns s (Replace h order new_order p volume side) plain sequence second not_add not_cross = refl
no_columns s (Imbalance h seconds) plain sequence second not_add not_cross = refl
no_columns s (NonDisplayed h trade p volume printable) plain sequence second not_add not_cross = refl
no_columns s (TradeCancel h trade) plain sequence second not_add not_cross = refl
no_columns s (CrossCorrection h cross volume) plain sequence second not_add not_cross = refl
no_columns s (Retail h indicator) plain sequence second not_add not_cross = refl
no_columns s (Clear h seconds) plain sequence second not_add not_cross = refl
no_columns s (Status h seconds) plain sequence second not_add not_cross = refl
