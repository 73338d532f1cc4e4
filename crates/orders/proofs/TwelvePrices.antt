-- By computation, in plain numbers. Twelve prices of two orders each on each side of one book, six of which stand on both sides: the ten best are shown, best first, each with its exact
-- sum and its own two orders. And one order: price 0 is a price, and the rows that are not needed are marked, and all zero.
use mathlib.Core.Bool.{true, false}
use mathlib.Core.List.{List, [], ◌∷◌}
use mathlib.Core.Path.{◌≡◌, refl}
use Prim.Native.Nat.{ℕ}
use Rattle.places.specs.Places.{fold, sum_by}
use Rattle.orders.specs.Rules.{order_of}
use Rattle.orders.specs.Levels.{best_step, shares_at}
use Rattle.orders.specs.Rows.{next_step, stands_at, row_after, rows_from, side_rows}
use Rattle.orders.specs.declared.Order.{Order}
use Rattle.orders.specs.declared.rows.LevelRow.{LevelRow}

abbrev buys : (number price volume : ℕ) → Order
buys n p v = order_of n true p v

abbrev sells : (number price volume : ℕ) → Order
sells n p v = order_of n false p v

abbrev orders : List Order
orders =
    sells 1 1140 418
    ∷ buys 2 1010 9
    ∷ buys 3 1000 364
    ∷ buys 4 1000 99
    ∷ sells 5 1060 383
    ∷ sells 6 1100 141
    ∷ sells 7 1120 39
    ∷ sells 8 1110 252
    ∷ buys 9 1020 100
    ∷ sells 10 1170 20
    ∷ buys 11 1060 7
    ∷ sells 12 1130 30
    ∷ sells 13 1150 7
    ∷ buys 14 1100 30
    ∷ buys 15 1010 100
    ∷ buys 16 1060 33
    ∷ buys 17 1070 415
    ∷ sells 18 1160 222
    ∷ sells 19 1060 99
    ∷ buys 20 1110 354
    ∷ buys 21 1040 30
    ∷ sells 22 1070 143
    ∷ sells 23 1080 250
    ∷ sells 24 1140 4294967295
    ∷ buys 25 1080 99
    ∷ buys 26 1090 231
    ∷ buys 27 1050 133
    ∷ sells 28 1090 71
    ∷ buys 29 1030 99
    ∷ buys 30 1020 483
    ∷ sells 31 1160 1
    ∷ sells 32 1120 30
    ∷ sells 33 1100 30
    ∷ buys 34 1040 4294967295
    ∷ buys 35 1070 99
    ∷ sells 36 1070 250
    ∷ sells 37 1150 92
    ∷ sells 38 1090 7
    ∷ buys 39 1080 187
    ∷ sells 40 1130 179
    ∷ buys 41 1090 250
    ∷ sells 42 1110 30
    ∷ sells 43 1080 248
    ∷ buys 44 1110 7
    ∷ buys 45 1050 4294967295
    ∷ buys 46 1030 421
    ∷ buys 47 1100 335
    ∷ sells 48 1170 1
    ∷ []

-- two orders at a price
abbrev two : (price size : ℕ) → LevelRow
two p n = record { used = true; price = p; size = n; orders = 2 }

pub highest_bids : side_rows true orders ≡
    (two 1110 361 ∷ two 1100 365 ∷ two 1090 481 ∷ two 1080 286 ∷ two 1070 514 ∷ two 1060 40 ∷ two 1050 4294967428 ∷ two 1040 4294967325 ∷ two 1030 520 ∷ two 1020 583 ∷ [])
unfolding side_rows rows_from row_after next_step best_step shares_at stands_at fold sum_by
highest_bids = refl

pub lowest_asks : side_rows false orders ≡
    (two 1060 482 ∷ two 1070 393 ∷ two 1080 498 ∷ two 1090 78 ∷ two 1100 171 ∷ two 1110 282 ∷ two 1120 69 ∷ two 1130 209 ∷ two 1140 4294967713 ∷ two 1150 99 ∷ [])
unfolding side_rows rows_from row_after next_step best_step shares_at stands_at fold sum_by
lowest_asks = refl

abbrev one : LevelRow
one = record { used = true; price = 0; size = 5; orders = 1 }

abbrev none : LevelRow
none = record { used = false; price = 0; size = 0; orders = 0 }

pub price_0_is_a_price : side_rows false (sells 1 0 5 ∷ []) ≡ (one ∷ none ∷ none ∷ none ∷ none ∷ none ∷ none ∷ none ∷ none ∷ none ∷ [])
unfolding side_rows rows_from row_after next_step best_step shares_at stands_at fold sum_by
price_0_is_a_price = refl
