-- Row k's columns in their order, for any table of parents and any column of an upper triangle: which they are, that each comes once,
-- and that whatever a column lists below k comes after it. Assumes nothing.
use Prim.Native.Nat.{ℕ, ◌<◌, ◌≤◌}
use mathlib.Core.Path.{◌≡◌, ap, subst}
use mathlib.Core.Bool.{Bool, true}
use mathlib.Core.Logic.{◌⊎◌, inl, inr, ⊎_elim}
use mathlib.Core.List.{List, [], ◌∷◌}
use native.Mathlib.Omega.{arith}
use native.Mathlib.Decide.{ℕ_discrete}
use lib.ListN.{length, get_or}
use Rattle.desk.specs.Lists.{tally}
use Rattle.desk.proofs.Tally.{tally-none, tally-here, tally-past, below_all, pigeonhole}
use Rattle.tree.specs.Strike.{joined}
use Rattle.tree.specs.Marks.{Column}
use Rattle.tree.proofs.Liu.{Parents, parent_joined, row-all, entry-joined}
use Rattle.row.specs.Row.{visits}
use Rattle.row.specs.Kernels.{In, Out, up, Climb, done, next}
use Rattle.row.proofs.Members.{in_out, out_none, in_later, in_cases, in_at, out-tally}
use Rattle.row.proofs.Paths.{visits_climbs, visits_has}

-- ---- a list in order

module _ {g : ℕ → ℕ → Bool} {par : ℕ → ℕ} {k : ℕ} where
  -- it is of row k
  pub climb-below : {xs : List ℕ} → Climb g par k xs → (i : ℕ) → In i xs → i < k
  climb-below done i m = absurd (in_out i [] m (out_none i))
  climb-below (next {i = x} {zs = zs} b t o p c) i m = ⊎_elim (λ e. rw e b) (λ r. climb-below c i r) (in_cases i x zs m)

  pub climb-joined : {xs : List ℕ} → Climb g par k xs → (i : ℕ) → In i xs → joined g i i k ≡ true
  climb-joined done i m = absurd (in_out i [] m (out_none i))
  climb-joined (next {i = x} {zs = zs} b t o p c) i m = ⊎_elim (λ e. rw e t) (λ r. climb-joined c i r) (in_cases i x zs m)

  -- each stands there once
  pub climb_once : {xs : List ℕ} → Climb g par k xs → (i : ℕ) → tally i xs ≤ 1
  climb_once done i = rw (tally-none i) (omega arith)
  climb_once (next {i = x} {zs = zs} b t o p c) i = elim (ℕ_discrete x i) [
    | yes e ↦ omega (arith, ap (λ (x : ℕ). tally i (x ∷ zs)) e, tally-here i zs, out-tally i zs (rw e at o))
    | no ne ↦ rw (tally-past i x zs ne) (climb_once c i)
  ]

  -- so there are at most k
  pub climb-fits : {xs : List ℕ} → Climb g par k xs → length xs ≤ k
  climb-fits {xs} c = omega (arith, below_all k xs (λ q l. climb-below c (get_or xs q 0) (in_at xs q l)), pigeonhole k xs (λ v _. climb_once c v))

  -- what is left of it is in order
  pub climb_rest : {x : ℕ} {xs : List ℕ} → Climb g par k (x ∷ xs) → Climb g par k xs
  climb_rest (next b t o p c) = c

  -- the first of it stands there no more
  pub climb_apart : {x : ℕ} {xs : List ℕ} → Climb g par k (x ∷ xs) → Out x xs
  climb_apart (next b t o p c) = o

  module _ {n : ℕ} (P : Parents g n par) (kn : k < n) where
    -- what x lists is reached by its parent
    by_parent : (x j : ℕ) (zs : List ℕ) → (par x ≡ k) ⊎ In (par x) zs → x < j → j < k → joined g x x j ≡ true →
        (In (par x) zs → par x < j → joined g (par x) (par x) j ≡ true → In j zs) → In j zs
    by_parent x j zs p xj jk h more =
        let le = P.least x j xj (omega arith) h in
        let m : In (par x) zs = ⊎_elim (λ e. absurd (omega arith)) (λ r. r) p in
        ⊎_elim (λ e. subst (λ (v : ℕ). In v zs) e m) (λ (l, t). more m l t) (parent_joined g n par P x j xj (omega arith) h)

    -- whatever one of them lists below k stands there too
    pub climb-lists : {xs : List ℕ} → Climb g par k xs → (i j : ℕ) → In i xs → i < j → j < k → joined g i i j ≡ true → In j xs
    climb-lists done i j m ij jk h = absurd (in_out i [] m (out_none i))
    climb-lists (next {i = x} {zs = zs} b t o p c) i j m ij jk h =
        in_later j x zs
        (⊎_elim
        (λ e. by_parent x j zs p (omega arith) jk (rw e at h) (λ r l t. climb-lists c (par x) j r l jk t))
        (λ r. climb-lists c i j r ij jk h)
        (in_cases i x zs m))

    -- and after it
    pub climb-after : {i : ℕ} {zs : List ℕ} → Climb g par k (i ∷ zs) → (j : ℕ) → i < j → j < k → joined g i i j ≡ true → In j zs
    climb-after (next {i = i} {zs = zs} b t o p c) j ij jk h = by_parent i j zs p ij jk h (λ r l t. climb-lists c (par i) j r l jk t)

-- ---- row k's columns

module _ (g : ℕ → ℕ → Bool) (n : ℕ) (etree : List ℕ) (P : Parents g n (up etree)) (k : ℕ) (kn : k < n) (rows : List ℕ) (col : Column g k rows) where
  -- they are in order
  pub visited_climb : Climb g (up etree) k (visits etree k rows [])
  visited_climb =
      visits_climbs g n etree P k kn rows []
      (λ q l. ⊎_elim (λ e. inl e) (λ (b, t). inr (b, entry-joined g (get_or rows q 0) k t)) (col.on q l))
      done

  -- each i below k that is joined to k as it goes is one of them
  pub visited_all : (i : ℕ) → i < k → joined g i i k ≡ true → In i (visits etree k rows [])
  visited_all =
      row-all g n (up etree) P k kn (λ i. In i (visits etree k rows []))
      (λ i b t. let (q, l, e) = col.all i b t in rw (← e) (visits_has etree k rows [] q l (omega arith)))
      (λ i b m h.
      let t = climb-joined visited_climb i m in
      climb-lists P kn visited_climb i (up etree i) m (P.later i k b kn t) h (P.touched i k b kn t))

  -- and nothing else is
  pub visited_only : (i : ℕ) → In i (visits etree k rows []) → (i < k) × (joined g i i k ≡ true)
  visited_only i m = (climb-below visited_climb i m, climb-joined visited_climb i m)

  -- each comes once
  pub visited_once : (i : ℕ) → tally i (visits etree k rows []) ≤ 1
  visited_once = climb_once visited_climb
