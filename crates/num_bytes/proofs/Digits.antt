-- Numbers high byte first, at any width: what is written is read, and what is read is written.
use mathlib.Core.Path.{◌≡◌, refl, sym, ap, ◌∙◌}
use mathlib.Core.List.{List, [], ◌∷◌, ◌++◌, append-nil, append_assoc}
use mathlib.Core.Bool.{true}
use Prim.Native.Nat.{ℕ, zero, suc, ◌+◌, ◌*◌, ◌/◌, ◌%◌, ◌^◌, ◌<◌, ◌≤◌}
use native.Mathlib.Omega.{arith}
use native.Mathlib.Nat.{div-lt_iff_lt-mul, pow-succ', mul_comm, add-zero, add-suc, div-div-eq-div-mul, mul-le-mul_right}
use lib.Arith.{mod-mul, digits_div, digits_mod}
use lib.ListN.{length, get_or, take, drop, length-append, length-drop}
use lib.Seq.{take_at, take-add, length-take-le}
use lib.Dec.{ltb, lit<}
use borrow.Author.Tests.{ltb-true}
use Rattle.num_bytes.specs.Bytes.{be, be_from, put_be, all_bytes, over}
use Rattle.num_bytes.proofs.Tests.{and_left, and_right, and_both}
use Rattle.num_bytes.proofs.Parts.{Laid, lay, part_from, returned}

-- A power of 256, one byte more.
power_suc : (n : ℕ) → 256 ^ suc n ≡ 256 ^ n * 256
power_suc n = pow-succ' 256 n ∙ mul_comm 256 (256 ^ n)

power_pos : (n : ℕ) → 0 < 256 ^ n
power_pos zero = omega arith
power_pos (suc n) = rw (power_suc n) (omega (arith, power_pos n))

-- n bytes are n long.
pub length_put : (n v : ℕ) → length (put_be n v) ≡ n
length_put zero v = refl
length_put (suc n) v = simp (length-append, length_put n (v / 256)) (omega arith)

be_from_append : (v : ℕ) (xs ys : List ℕ) → be_from v (xs ++ ys) ≡ be_from (be_from v xs) ys
be_from_append v [] ys = refl
be_from_append v (x ∷ xs) ys = be_from_append (256 * v + x) xs ys

-- The higher digits count for a power of 256.
be_from_high : (v : ℕ) (bs : List ℕ) → be_from v bs ≡ v * 256 ^ length bs + be_from 0 bs
be_from_high v [] = omega arith
be_from_high v (b ∷ bs) =
    let p = power_suc (length bs) in
    let m = 256 ^ length bs in
    be_from_high (256 * v + b) bs ∙ rw p (omega (arith, be_from_high (256 * 0 + b) bs))

-- A field that is there whole.
length_field : (i n : ℕ) (s : List ℕ) → i + n ≤ length s → length (take n (drop i s)) ≡ n
length_field i n s h = length-take-le n (drop i s) (simp length-drop (omega arith))

-- A field of m and n bytes is its high part and its low part.
pub be_split : (m n : ℕ) (s : List ℕ) → m + n ≤ length s → be 0 (m + n) s ≡ be 0 m s * 256 ^ n + be m n s
be_split m n s h =
    let l = length_field m n s h in
    ap (be_from 0) (take-add m n s)
    ∙ be_from_append 0 (take m s) (take n (drop m s))
    ∙ be_from_high (be 0 m s) (take n (drop m s))
    ∙ ap (λ (k : ℕ). be 0 m s * 256 ^ k + be m n s) l

-- A field of one byte.
pub be_byte : (i : ℕ) (s : List ℕ) → i < length s → be i 1 s ≡ get_or s i 0
be_byte i [] h = absurd (omega arith)
be_byte zero (b ∷ s) h = omega arith
be_byte (suc i) (b ∷ s) h = be_byte i s (omega arith)

-- Written, then read.
be_from_put : (n v : ℕ) → v < 256 ^ n → be_from 0 (put_be n v) ≡ v
be_from_put zero v h = omega arith
be_from_put (suc n) v h =
    let q : v / 256 < 256 ^ n = (div-lt_iff_lt-mul (lit< tt)).1 (rw (power_suc n) at h) in
    simp (be_from_append, be_from_put n (v / 256)) (omega arith)

-- A number that fits n bytes, written and read.
pub be_put : (n v : ℕ) (r : List ℕ) → v < 256 ^ n → be 0 n (put_be n v ++ r) ≡ v
be_put n v r h = ap (be_from 0) (take_at (put_be n v) r n (length_put n v)) ∙ be_from_put n v h

-- Read, then written: the bytes again.
pub byte_first : (b : ℕ) (bs : List ℕ) → all_bytes (b ∷ bs) ≡ true → (b < 256) × (all_bytes bs ≡ true)
byte_first b bs e = (ltb-true b 256 (and_left (ltb b 256) (all_bytes bs) e), and_right (ltb b 256) (all_bytes bs) e)

put_from : (k v : ℕ) (bs : List ℕ) → all_bytes bs ≡ true → put_be (k + length bs) (be_from v bs) ≡ put_be k v ++ bs
put_from k v [] e = rw (add-zero, append-nil)
put_from k v (b ∷ bs) e =
    let f = byte_first b bs e in
    let d : (256 * v + b) / 256 ≡ v = omega (arith, f.0) in
    let m : (256 * v + b) % 256 ≡ b = omega (arith, f.0) in
    let z : k + suc (length bs) ≡ suc k + length bs = omega arith in
    rw z
    (put_from (suc k) (256 * v + b) bs f.1 ∙ rw (d, m) (append_assoc (put_be k v) (b ∷ []) bs))

-- What is left of bytes is bytes.
pub bytes_drop : (i : ℕ) (s : List ℕ) → all_bytes s ≡ true → all_bytes (drop i s) ≡ true
bytes_drop zero s e = e
bytes_drop (suc i) [] e = e
bytes_drop (suc i) (b ∷ s) e = bytes_drop i s (byte_first b s e).1

bytes_take : (n : ℕ) (s : List ℕ) → all_bytes s ≡ true → all_bytes (take n s) ≡ true
bytes_take zero s e = refl
bytes_take (suc n) [] e = e
bytes_take (suc n) (b ∷ s) e =
    and_both (ltb b 256) (all_bytes (take n s)) (and_left (ltb b 256) (all_bytes s) e) (bytes_take n s (and_right (ltb b 256) (all_bytes s) e))

bytes_field : (i n : ℕ) (s : List ℕ) → all_bytes s ≡ true → all_bytes (take n (drop i s)) ≡ true
bytes_field i n s e = bytes_take n (drop i s) (bytes_drop i s e)

-- Bytes read as a number and written again.
pub put_be_lem : (i n : ℕ) (s : List ℕ) → all_bytes s ≡ true → i + n ≤ length s → put_be n (be i n s) ≡ take n (drop i s)
put_be_lem i n s e h =
    let l = length_field i n s h in
    let z : n ≡ 0 + length (take n (drop i s)) = omega arith in
    ap (λ (k : ℕ). put_be k (be i n s)) z ∙ put_from 0 0 (take n (drop i s)) (bytes_field i n s e)

-- What bytes hold is below the power of their number.
pub be_from_fits : (bs : List ℕ) → all_bytes bs ≡ true → be_from 0 bs < 256 ^ length bs
be_from_fits [] e = omega arith
be_from_fits (b ∷ bs) e =
    let f = byte_first b bs e in
    let m = 256 ^ length bs in
    let g : suc b * m ≤ 256 * m = mul-le-mul_right m f.0 in
    rw (power_suc (length bs)) (omega (arith, be_from_high (256 * 0 + b) bs, be_from_fits bs f.1))

-- What n bytes hold fits them.
pub be_fits : (i n : ℕ) (s : List ℕ) → all_bytes s ≡ true → i + n ≤ length s → be i n s < 256 ^ n
be_fits i n s e h =
    rw (length_field i n s h) at (be_from_fits (take n (drop i s)) (bytes_field i n s e))

-- A number's bytes are those of its high part and those of its low part.
pub put_split : (m n v : ℕ) → put_be (m + n) v ≡ put_be m (v / 256 ^ n) ++ put_be n (v % 256 ^ n)
put_split m zero v =
    let e : v / 256 ^ 0 ≡ v = omega arith in
    rw (add-zero, e, append-nil)
put_split m (suc n) v =
    let d : v % 256 ^ suc n ≡ v / 256 % 256 ^ n * 256 + v % 256 = rw (power_suc n) (mod-mul v (power_pos n) (lit< tt)) in
    let small : v % 256 < 256 = omega arith in
    let low : v % 256 ^ suc n / 256 ≡ v / 256 % 256 ^ n = ap (λ (k : ℕ). k / 256) d ∙ digits_div (v / 256 % 256 ^ n) small in
    let end : v % 256 ^ suc n % 256 ≡ v % 256 = ap (λ (k : ℕ). k % 256) d ∙ digits_mod (v / 256 % 256 ^ n) small in
    let high : v / 256 / 256 ^ n ≡ v / 256 ^ suc n = div-div-eq-div-mul v 256 (256 ^ n) ∙ ap (λ (k : ℕ). v / k) (sym (pow-succ' 256 n)) in
    rw (add-suc, low, end, ← high)
    (ap (λ (l : List ℕ). l ++ (v % 256 ∷ [])) (put_split m n (v / 256))
    ∙ append_assoc (put_be m (v / 256 / 256 ^ n)) (put_be n (v / 256 % 256 ^ n)) (v % 256 ∷ []))

-- A number laid down in two parts: its high part, then its low part in the part behind it.
pub put_halves : (m n v : ℕ) (o : List ℕ) {o₁ last : List ℕ} → m + n ≤ length o → o₁ ≡ over (put_be m (v / 256 ^ n)) o
    → last ≡ over (put_be n (v % 256 ^ n)) (part_from m o₁) → returned m o₁ last ≡ over (put_be (m + n) v) o
put_halves m n v o {o₁} h high low =
    let first : Laid (put_be m (v / 256 ^ n)) o o₁ m = record { bytes = high; size = length_put m (v / 256 ^ n); fits = omega arith } in
    let both = lay first (put_be n (v % 256 ^ n)) (omega (arith, length_put n (v % 256 ^ n))) low in
    both.bytes ∙ ap (λ (l : List ℕ). over l o) (sym (put_split m n v))
