-- Document 01, piece 6: the two triangular solves, the whole solve, and when L is spoiled. Assumes nothing.
use Rattle.std.specs.Prelude.{ℕ, ◌-◌, Bool, not, ◌&&◌, ◌||◌, List, [], ◌∷◌, reverse, ltb, Float, length, get_or, set}
use Rattle.std.specs.Float.{nan}
use Rattle.desk.specs.Lists.{upto, any}
use Rattle.csc.specs.Csc.{column, bad_pointers}
use Rattle.order.specs.Order.{permuted, ipermuted}
use Rattle.pivot.specs.Pivots.{◌⊕◌, ◌⊖◌, ◌⊗◌, +0}
use Rattle.row.specs.Row.{scattered}

-- "for i rising, each x[r] = x[r] - L[r,i]*x[i]"
unfoldable pub lsolved : List ℕ → List ℕ → List Float → List ℕ → List Float → List Float
lsolved lp li lx [] x = x
lsolved lp li lx (i ∷ is) x = lsolved lp li lx is (scattered (column lp li i) (column lp lx i) (get_or x i nan) x)

-- "s from +0 adds L[r,i]*x[r] in stored order"
unfoldable pub summed : List ℕ → List Float → List Float → Float → Float
summed [] vals x s = s
summed (r ∷ rows) [] x s = s
summed (r ∷ rows) (l ∷ vals) x s = summed rows vals x (s ⊕ l ⊗ get_or x r nan)

-- "Then for i falling: s ..; x[i] = x[i]*Dinv[i], then minus s."
unfoldable pub dltsolved : List ℕ → List ℕ → List Float → List Float → List ℕ → List Float → List Float
dltsolved lp li lx dinv [] x = x
dltsolved lp li lx dinv (i ∷ is) x =
    dltsolved lp li lx dinv is (set x i (get_or x i nan ⊗ get_or dinv i nan ⊖ summed (column lp li i) (column lp lx i) x +0))

-- "Solve: x is the permuted right side; .. Then back through the ordering."
unfoldable pub solved : ℕ → List ℕ → List ℕ → List ℕ → List Float → List Float → List Float → List Float
solved n perm lp li lx dinv b =
    ipermuted nan perm (dltsolved lp li lx dinv (reverse (upto n)) (lsolved lp li lx (upto n) (permuted nan perm b)))

-- "Solve: L's pointers don't start at 0, fall, or end past its rows or values; or a row of column i isn't in i+1..n-1."
unfoldable pub spoiled_l : ℕ → List ℕ → List ℕ → List Float → Bool
spoiled_l n lp li lx =
    let last = get_or lp (length lp - 1) 0 in
    bad_pointers last lp || ltb (length li) last || ltb (length lx) last ||
    any (λ i. any (λ r. not (ltb i r && ltb r n)) (column lp li i)) (upto n)
