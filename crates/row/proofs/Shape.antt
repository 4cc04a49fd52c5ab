-- The lists of L's columns before, within and after row k: column c has its rows below up_to c, by plain striking out. Assumes nothing.
use Prim.Native.Nat.{ℕ, suc, ◌+◌, ◌<◌, ◌≤◌}
use mathlib.Core.Path.{◌≡◌, refl, sym, ap, ◌∙◌}
use mathlib.Core.Bool.{Bool, true, false, cond}
use mathlib.Core.List.{List, [], ◌∷◌, ◌++◌, map}
use native.Mathlib.Omega.{arith}
use native.Mathlib.Decide.{ℕ_discrete, dec_lt, le_ind}
use borrow.Author.Tests.{eq-eqb, ne_eqb}
use lib.Dec.{eqb}
use lib.Ieee.{Float}
use lib.ListN.{length, get_or, set, replicate, length-set, length-append, length-replicate, get_or-replicate}
use lib.Seq.{get_or-set_same, get_or-set_other, ext_get_or}
use Rattle.desk.specs.Lists.{any, upto}
use Rattle.desk.proofs.Both.{is_false}
use Rattle.desk.proofs.Upto.{length-upto, get_or-upto}
use Rattle.tree.specs.Strike.{joined, later}
use Rattle.tree.specs.Marks.{Column}
use Rattle.tree.proofs.Liu.{Parents}
use Rattle.tree.proofs.Later.{later-none, later-joined, later_apart}
use Rattle.row.specs.Row.{visits}
use Rattle.row.specs.Kernels.{up, Climb, Sized, Shape, given}
use Rattle.row.proofs.Members.{in_out, in_here}
use Rattle.row.proofs.Order.{climb-below, climb-joined, climb_apart, visited_all}

-- a column never loses a row, and where row k is to come there is room for it
module _ (g : ℕ → ℕ → Bool) (c : ℕ) where
  longer : (m : ℕ) → length (later m g c) ≤ length (later (suc m) g c)
  longer m = elim (dec_lt c m) [
    | yes h ↦ go h (joined g c c m) refl
    | no ge ↦ rw (later-none g m c (omega arith)) (omega arith)
  ]
    where
      go : c < m → (b : Bool) → joined g c c m ≡ b → length (later m g c) ≤ length (later (suc m) g c)
      go h true e = rw (later-joined g c m h e, length-append) (omega arith)
      go h false e = rw (later_apart g c m h e) (omega arith)

  pub column_longer : (m n : ℕ) → m ≤ n → length (later m g c) ≤ length (later n g c)
  column_longer m n le = le_ind (λ n. length (later m g c) ≤ length (later n g c)) (omega arith) (λ v _ ih. omega (arith, longer v)) n le

  pub column-room : (k n : ℕ) → c < k → k < n → joined g c c k ≡ true → length (later k g c) < length (later n g c)
  column-room k n h kn j = omega (arith, column_longer (suc k) n kn, simp length-append at (ap length (later-joined g c k h j)))

-- ---- whatever up_to is

module _ {g : ℕ → ℕ → Bool} {n : ℕ} {up_to : ℕ → ℕ} {rows : List (List ℕ)} {vals : List (List Float)} (s : Shape g n up_to rows vals) where
  pub shape_sized : Sized g n up_to rows
  shape_sized = record { many = s.many; long = λ c h. ap length (s.each c h) }

  -- all lists at once
  pub shape-lists : rows ≡ map (λ c. later (up_to c) g c) (upto n)
  shape-lists =
      let f : ℕ → List ℕ = λ c. later (up_to c) g c in
      ext_get_or [] rows (map f (upto n)) (s.many ∙ sym (length-upto f n))
      (λ c h. let l : c < n = omega (arith, s.many) in s.each c l ∙ sym (get_or-upto f [] n c l))

  -- the same for another up_to, where that says the same of each column
  pub shape_as : (other : ℕ → ℕ) → ((c : ℕ) → c < n → later (up_to c) g c ≡ later (other c) g c) → Shape g n other rows vals
  shape_as other e = record {
    many = s.many;
    each = λ c h. s.each c h ∙ e c h;
    values = record { many = s.values.many; long = λ c h. s.values.long c h ∙ ap length (e c h) };
  }

module _ (g : ℕ → ℕ → Bool) (n : ℕ) (up_to : ℕ → ℕ) where
  -- there are such lists, with one value all over, as the logical factor has it
  pub shape_plain : (x : Float) → Shape g n up_to (map (λ c. later (up_to c) g c) (upto n)) (map (λ c. replicate (length (later (up_to c) g c)) x) (upto n))
  shape_plain x =
      let values : ℕ → List Float = λ c. replicate (length (later (up_to c) g c)) x in
      record {
        many = length-upto (λ c. later (up_to c) g c) n;
        each = λ c h. get_or-upto (λ c. later (up_to c) g c) [] n c h;
        values = record {
          many = length-upto values n;
          long = λ c h. ap length (get_or-upto values [] n c h) ∙ length-replicate (length (later (up_to c) g c)) x;
        };
      }

  -- before the first two rows nothing is listed
  pub shape-none : ((c : ℕ) → c < n → up_to c ≤ suc c) → Shape g n up_to (replicate n []) (replicate n [])
  shape-none low =
      let none : (c : ℕ) → c < n → later (up_to c) g c ≡ [] = λ c h. later-none g (up_to c) c (low c h) in
      record {
        many = length-replicate n [];
        each = λ c h. get_or-replicate n c [] [] h ∙ sym (none c h);
        values = record { many = length-replicate n []; long = λ c h. ap length (get_or-replicate {A = List Float} n c [] [] h) ∙ sym (ap length (none c h)) };
      }

-- ---- within row k

pub given_most : (rest : List ℕ) (k c n : ℕ) → k < n → given rest k c ≤ n
given_most rest k c n h = go (any (eqb c) rest)
  where
    go : (b : Bool) → cond b k (suc k) ≤ n
    go true = omega arith
    go false = h

-- a turn changes nothing for the other columns
pub given_other : (c : ℕ) (rest : List ℕ) (k i : ℕ) → (i ≡ c → ⊥) → given (c ∷ rest) k i ≡ given rest k i
given_other c rest k i ne = rw (ne_eqb i c ne)

module _ {g : ℕ → ℕ → Bool} {n : ℕ} {par : ℕ → ℕ} {k : ℕ} (kn : k < n) {c : ℕ} {rest : List ℕ} (x : Climb g par k (c ∷ rest)) where
  below : c < k
  below = climb-below x c (in_here c rest)

  -- the next column is given k
  pub given_more : later (given rest k c) g c ≡ later (given (c ∷ rest) k c) g c ++ (k ∷ [])
  given_more = rw (climb_apart x, eq-eqb c c refl) (later-joined g c k below (climb-joined x c (in_here c rest)))

  sized_step : {A : Type 0} (cols : List (List A)) (v : A) → Sized g n (given (c ∷ rest) k) cols →
      Sized g n (given rest k) (set cols c (get_or cols c [] ++ (v ∷ [])))
  sized_step cols v s =
      let a = get_or cols c [] ++ (v ∷ []) in
      record {
        many = length-set cols c a ∙ s.many;
        long = λ i h. elim (ℕ_discrete i c) [
          | yes e ↦
              rw (e, get_or-set_same cols c a [] (omega (arith, s.many, below)), given_more)
              (simp length-append (ap (λ (m : ℕ). m + 1) (s.long c (omega (arith, below)))))
          | no ne ↦ rw (get_or-set_other cols c i a [] ne, ← given_other c rest k i ne) (s.long i h)
        ];
      }

  -- with a value
  pub shape_step : (rows : List (List ℕ)) (vals : List (List Float)) (v : Float) → Shape g n (given (c ∷ rest) k) rows vals →
      Shape g n (given rest k) (set rows c (get_or rows c [] ++ (k ∷ []))) (set vals c (get_or vals c [] ++ (v ∷ [])))
  shape_step rows vals v s =
      let a = get_or rows c [] ++ (k ∷ []) in
      record {
        many = length-set rows c a ∙ s.many;
        each = λ i h. elim (ℕ_discrete i c) [
          | yes e ↦ rw (e, get_or-set_same rows c a [] (omega (arith, s.many, below)), given_more) (ap (λ (l : List ℕ). l ++ (k ∷ [])) (s.each c (omega (arith, below))))
          | no ne ↦ rw (get_or-set_other rows c i a [] ne, ← given_other c rest k i ne) (s.each i h)
        ];
        values = sized_step vals v s.values;
      }

-- after the last column the next row starts from there
pub shape-next : {g : ℕ → ℕ → Bool} {n k : ℕ} {rows : List (List ℕ)} {vals : List (List Float)} → Shape g n (given [] k) rows vals → Shape g n (λ c. suc k) rows vals
shape-next s = s

-- before the first: a column that row k does not visit lists no k
module _ (g : ℕ → ℕ → Bool) (n : ℕ) (etree : List ℕ) (P : Parents g n (up etree)) (k : ℕ) (kn : k < n) (col_rows : List ℕ) (col : Column g k col_rows) where
  unvisited : (c : ℕ) → (b : Bool) → any (eqb c) (visits etree k col_rows []) ≡ b → later k g c ≡ later (cond b k (suc k)) g c
  unvisited c true e = refl
  unvisited c false o = elim (dec_lt c k) [
    | yes h ↦
        sym (later_apart g c k h (is_false (joined g c c k) (λ j.
        in_out c (visits etree k col_rows []) (visited_all g n etree P k kn col_rows col c h j) o)))
    | no ge ↦ later-none g k c (omega arith) ∙ sym (later-none g (suc k) c (omega arith))
  ]

  pub given-start : (c : ℕ) → later k g c ≡ later (given (visits etree k col_rows []) k c) g c
  given-start c = unvisited c (any (eqb c) (visits etree k col_rows [])) refl

  pub shape-start : {rows : List (List ℕ)} {vals : List (List Float)} → Shape g n (λ c. k) rows vals → Shape g n (given (visits etree k col_rows []) k) rows vals
  shape-start s = shape_as s (given (visits etree k col_rows []) k) (λ c h. given-start c)
