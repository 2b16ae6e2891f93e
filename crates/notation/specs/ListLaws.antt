-- Laws of lists of numbers: rising ones, and tables, rows of cells, with what stands in a row after numbers were put into one.
use Rattle.std.specs.Prelude.{ℕ, zero, suc, ◌+◌, ◌*◌, ◌/◌, ◌≤◌, ◌<◌, ◌≡◌, refl, ◌≢◌, List, [], ◌∷◌, length, get_or, set}
use Rattle.std.proofs.Common.{sym, ap, ◌∙◌, add-zero, arith, length-set, get_or-set_same, get_or-set_other}
use Rattle.std.proofs.Math.Nat.{div-eq_of_lt, mul-add-div_right}
use Rattle.notation.specs.Lists.{numbers_from}

pub length_numbers : (first n : ℕ) → length (numbers_from first n) ≡ n
unfolding numbers_from
length_numbers first zero = refl
length_numbers first (suc n) = ap suc (length_numbers (suc first) n)

pub get_or_numbers : (first n i d : ℕ) → i < n → get_or (numbers_from first n) i d ≡ first + i
unfolding numbers_from
get_or_numbers first zero i d h = absurd (omega arith)
get_or_numbers first (suc n) zero d h = sym (add-zero first)
get_or_numbers first (suc n) (suc i) d h = get_or_numbers (suc first) n i d (omega arith) ∙ omega arith

-- cell k of the row at a start; the first is written without its number
abbrev pub cell : ℕ → ℕ → ℕ
cell start zero = start
cell start (suc k) = start + suc k

-- n cells of a row, from cell k on
abbrev pub cells : List ℕ → ℕ → ℕ → ℕ → List ℕ
cells table start k zero = []
cells table start k (suc n) = get_or table (cell start k) 0 ∷ cells table start (suc k) n

-- numbers put into a row, from cell k on
abbrev pub cells_put : List ℕ → ℕ → ℕ → List ℕ → List ℕ
cells_put table start k [] = table
cells_put table start k (a ∷ row) = cells_put (set table (cell start k) a) start (suc k) row

cell_add : (start k : ℕ) → cell start k ≡ start + k
cell_add start zero = sym (add-zero start)
cell_add start (suc k) = refl

pub length-put : (table : List ℕ) (start k : ℕ) (row : List ℕ) → length (cells_put table start k row) ≡ length table
length-put table start k [] = refl
length-put table start k (a ∷ row) = length-put (set table (cell start k) a) start (suc k) row ∙ length-set table (cell start k) a

-- a place where nothing is put
get_or-put :
    (table : List ℕ) (start k : ℕ) (row : List ℕ) (i : ℕ) → ((j : ℕ) → k ≤ j → j < k + length row → i ≢ start + j)
    → get_or (cells_put table start k row) i 0 ≡ get_or table i 0
get_or-put table start k [] i apart = refl
get_or-put table start k (a ∷ row) i apart =
    get_or-put (set table (cell start k) a) start (suc k) row i (λ j l h. apart j (omega arith) (omega arith))
    ∙ get_or-set_other table (cell start k) i a 0 (rw (cell_add start k) (apart k (omega arith) (omega arith)))

-- the row that was put stands there
pub cells_put-same :
    (table : List ℕ) (start k : ℕ) (row : List ℕ) → start + k + length row ≤ length table
    → cells (cells_put table start k row) start k (length row) ≡ row
cells_put-same table start k [] fits = refl
cells_put-same table start k (a ∷ row) fits =
    let here = cell start k in
    let e = cell_add start k in
    let first = get_or-put (set table here a) start (suc k) row here (λ j l h. omega arith) ∙ get_or-set_same table here a 0 (omega arith) in
    let rest = cells_put-same (set table here a) start (suc k) row (omega (arith, length-set table here a)) in
    λ i. first i ∷ rest i

-- the number of a cell's row
row_number : (width v k : ℕ) → k < width → (v * width + k) / width ≡ v
row_number width v k h =
    let positive : 0 < width = omega arith in
    mul-add-div_right positive v k ∙ ap (λ (n : ℕ). v + n) (div-eq_of_lt h) ∙ add-zero v

same_row : (width v w k j : ℕ) → k < width → j < width → v * width + k ≡ w * width + j → v ≡ w
same_row width v w k j hk hj e =
    sym (row_number width v k hk) ∙ ap (λ (i : ℕ). i / width) e ∙ row_number width w j hj

-- another row stays as it was
pub cells_put-other :
    (width v w : ℕ) → v ≢ w → (table row : List ℕ) → length row ≤ width → (k n : ℕ) → k + n ≤ width
    → cells (cells_put table (v * width) 0 row) (w * width) k n ≡ cells table (w * width) k n
cells_put-other width v w differ table row narrow k zero fits = refl
cells_put-other width v w differ table row narrow k (suc n) fits =
    let e = cell_add (w * width) k in
    let first = get_or-put table (v * width) 0 row (cell (w * width) k) (λ j _ h s. differ (same_row width v w j k (omega arith) (omega arith) (sym s ∙ e))) in
    let rest = cells_put-other width v w differ table row narrow (suc k) n (omega arith) in
    λ i. first i ∷ rest i
