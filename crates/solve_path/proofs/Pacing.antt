-- One step of a walk over arcs: the nearest place of the fringe, and what is kept after it was taken.
use mathlib.Core.Path.{◌≡◌, refl, sym, ◌∙◌}
use mathlib.Core.Bool.{Bool, true, false}
use mathlib.Core.List.{List}
use mathlib.Core.Logic.{◌⊎◌, inl, inr, ⊎_elim}
use Prim.Native.Nat.{ℕ, ◌-◌, ◌/◌, ◌%◌, ◌^◌, ◌≤◌, ◌<◌}
use native.Mathlib.Omega.{arith}
use native.Mathlib.Decide.{ℕ_discrete, dec_le}
use borrow.Author.Tests.{ltb-false}
use lib.Bits.{bit_and, bit_xor, and_le_r}
use lib.Count.{count_trailing_zeros}
use lib.Dec.{ltb}
use lib.ListN.{length, get_or, set, length-set}
use lib.Seq.{ext_get_or, get_or-set_same, get_or-set_other}
use Rattle.num_bytes.proofs.Tests.{by_cases, clash}
use Rattle.num_bytes.proofs.Filled.{get_d_any}
use Rattle.plant_def.specs.Limits.{places}
use Rattle.num_bytes.specs.Sums.{bit}
use Rattle.num_bytes.proofs.Binary.{unlike, bit_xor_lem, bit_zero, bit_same, bit_other}
use Rattle.solve_def.specs.Sizes.{far, numbering}
use Rattle.solve_def.specs.Near.{nearest_to, nearest_within}
use Rattle.solve_def.specs.Fringe.{Fringe, Stepped}
use Rattle.flow_def.proofs.Lowest.{lowest, with_others}
use Rattle.solve_def.proofs.Fringes.{Scan, scan_none, scan_nearer, scan_not, scan_near}
use Rattle.solve_def.proofs.Nearing.{nearest_is}
use Rattle.solve_def.proofs.Steps.{within_is, step_none, step_in, step_some}
use Rattle.solve_path.specs.Codes.{shown, Coded, Looked}
use Rattle.solve_path.proofs.Coding.{shown_at, shown_long, shown_fringe}
use Rattle.solve_path.specs.Paces.{Paced}

-- The places of the fringe are looked at, by the codes that are kept; `left` are the others.
pub record Scanned (near : List ℕ) (m left at best : ℕ) : Type 0 where
  pub small : left < 2 ^ 64
  pub some : (h : ℕ) → bit h left ≡ true → bit h m ≡ true
  pub held : (best ≡ far) ⊎ (bit at m ≡ true)
  pub scan : (limit : ℕ) (vs : List Bool) → Coded limit vs near m → Scan (shown vs near) m left at best

-- No place of the fringe is looked at yet.
pub scanned_none : (near : List ℕ) (m : ℕ) → m < 2 ^ 64 → Scanned near m m places far
scanned_none near m l = record { small = l; some = λ h b. b; held = inl refl; scan = λ limit vs w. scan_none limit (shown vs near) m w.fringe }

module _ (near : List ℕ) (m left at best : ℕ) (w : Scanned near m left at best) (more : 0 < left) where
  abbrev t : ℕ
  t = count_trailing_zeros 64 left

  own : bit t m ≡ true
  own = w.some t (lowest 64 left more w.small)

  -- The lowest that is left is a place.
  pub scanned_in : (limit : ℕ) (vs : List Bool) → Coded limit vs near m → t < places
  scanned_in limit vs c = c.fringe.inside t own

  here : (limit : ℕ) (vs : List Bool) → Coded limit vs near m → get_or (shown vs near) t 0 ≡ get_or near t 0
  here limit vs c = shown_fringe vs near t (scanned_in limit vs c) (c.fresh t own)

  rest_small : bit_and left (left - 1) < 2 ^ 64
  rest_small = omega (arith, and_le_r left (left - 1), w.small)

  rest_some : (h : ℕ) → bit h (bit_and left (left - 1)) ≡ true → bit h m ≡ true
  rest_some h b = elim (ℕ_discrete h t) [
    | yes q ↦ rw q own
    | no q ↦ w.some h (sym (with_others 64 left h more w.small q) ∙ b)
  ]

  -- It is nearer than those before.
  pub scanned_nearer : get_or near t 0 < best → Scanned near m (bit_and left (left - 1)) t (get_or near t 0)
  scanned_nearer h = record {
    small = rest_small;
    some = rest_some;
    held = inr own;
    scan = λ limit vs c. rw (← here limit vs c) (scan_nearer (shown vs near) m left at best (w.scan limit vs c) more w.small (rw (here limit vs c) h));
  }

  -- Or it is not.
  pub scanned_not : best ≤ get_or near t 0 → Scanned near m (bit_and left (left - 1)) at best
  scanned_not h = record {
    small = rest_small;
    some = rest_some;
    held = w.held;
    scan = λ limit vs c. scan_not (shown vs near) m left at best (w.scan limit vs c) more w.small (rw (here limit vs c) h);
  }

-- All are looked at, and none is within the limit.
none_within : (limit : ℕ) (codes : List ℕ) (m at : ℕ) → length codes ≡ places → Fringe limit codes m → Scan codes m 0 at far → places ≡ nearest_within codes limit
none_within limit codes m at long f w = by_cases (ltb limit (get_or codes (nearest_to codes places) far / numbering))
    (λ o. rw o)
    (λ o. rw o (elim (ℕ_discrete (nearest_to codes places) places) [ yes q ↦ sym q | no q ↦ absurd (missed o q) ]))
  where
    missed : ltb limit (get_or codes (nearest_to codes places) far / numbering) ≡ false → (nearest_to codes places ≡ places → ⊥) → ⊥
    missed o q =
        let r = nearest_to codes places in
        let i = nearest_is codes r long refl q in
        let same : get_or codes r far ≡ get_or codes r 0 = get_d_any codes r far 0 (rw long i.0) in
        let on : bit r m ≡ true = f.all r i.0 i.1 (rw same at (ltb-false limit (get_or codes r far / numbering) o)) in
        elim (dec_le w.u r) [
          | yes k ↦ clash (bit r 0) (w.others r k on) (bit_zero r)
          | no k ↦ omega (arith, w.least r (omega arith) on, i.1)
        ]

-- All are looked at: the nearest is found.
pub scanned_all : (near : List ℕ) (m at best : ℕ) → Scanned near m 0 at best → (limit : ℕ) (vs : List Bool) → Coded limit vs near m → at ≡ nearest_within (shown vs near) limit
scanned_all near m at best w limit vs c = ⊎_elim
    (λ (k : (at < (w.scan limit vs c).u) × (best ≡ get_or (shown vs near) at 0) × (best < far) × ((v : ℕ) → v < at → bit v m ≡ true → best < get_or (shown vs near) v 0)).
    scan_near limit (shown vs near) m at best c.fringe (shown_long vs near) (w.scan limit vs c)
    (⊎_elim (λ (e : best ≡ far). absurd (omega (arith, e, k.2))) (λ (b : bit at m ≡ true). near_in k.1 b) w.held))
    (λ k. k.0 ∙ none_within limit (shown vs near) m at (shown_long vs near) c.fringe (rw k.1 at (w.scan limit vs c)))
    (w.scan limit vs c).one
  where
    near_in : best ≡ get_or (shown vs near) at 0 → bit at m ≡ true → best / numbering ≤ limit
    near_in e b = omega (arith, e, shown_fringe vs near at (c.fringe.inside at b) (c.fresh at b), c.within at b)

-- The nearest place e is taken: its code becomes 0.
module _ (limit : ℕ) (vs : List Bool) (near : List ℕ) (m e : ℕ) (l : length vs ≡ places) (long : length near ≡ places) (c : Coded limit vs near m)
    (is : e ≡ nearest_within (shown vs near) limit) (q : e ≡ places → ⊥) where
  taken_in : (e < places) × (get_or (shown vs near) e 0 < far)
  taken_in = step_in limit (shown vs near) e m (shown_long vs near) c.fringe is q

  on : bit e m ≡ true
  on = c.fringe.all e taken_in.0 taken_in.1 (within_is (shown vs near) limit e (shown_long vs near) is q).1

  taken_code : get_or (shown vs near) e 0 ≡ get_or near e 0
  taken_code = shown_fringe vs near e taken_in.0 (c.fresh e on)

  taken_shown : shown (set vs e true) (set near e 0) ≡ set (shown vs near) e far
  taken_shown =
      ext_get_or 0 (shown (set vs e true) (set near e 0)) (set (shown vs near) e far)
      (shown_long (set vs e true) (set near e 0) ∙ sym (length-set (shown vs near) e far ∙ shown_long vs near))
      (λ u b. each u (rw (shown_long (set vs e true) (set near e 0)) at b))
    where
      each : (u : ℕ) → u < places → get_or (shown (set vs e true) (set near e 0)) u 0 ≡ get_or (set (shown vs near) e far) u 0
      each u b = elim (ℕ_discrete u e) [
        | yes o ↦ rw o (shown_at (set vs e true) (set near e 0) e taken_in.0 ∙ rw (get_or-set_same vs e true false (rw l taken_in.0)) refl
            ∙ sym (get_or-set_same (shown vs near) e far 0 (rw (shown_long vs near) taken_in.0)))
        | no o ↦ shown_at (set vs e true) (set near e 0) u b ∙ rw (get_or-set_other vs e u true false o, get_or-set_other near e u 0 0 o) refl
            ∙ sym (get_or-set_other (shown vs near) e u far 0 o ∙ shown_at vs near u b)
      ]

  taken_stepped : (k own : ℕ) → own ≡ 2 ^ e
      → Stepped limit (shown vs near) k (shown (set vs e true) (set near e 0)) (record { place = e; distance = get_or near e 0 / numbering; stream = get_or near e 0 % numbering; fringe = bit_xor m own })
  taken_stepped k own h = rw (taken_shown, ← taken_code) (step_some limit (shown vs near) e m (shown_long vs near) c.fringe is q k own h)

  plain : (b : Bool) → unlike b false ≡ b
  plain true = refl
  plain false = refl

  -- The bit of another place stays.
  other : (own v : ℕ) → own ≡ 2 ^ e → (v ≡ e → ⊥) → bit v (bit_xor m own) ≡ true → bit v m ≡ true
  other own v h z o = sym (rw h (bit_xor_lem v m (2 ^ e) ∙ rw (bit_other v e z) (plain (bit v m)))) ∙ o

  -- Its own is gone.
  gone : (own v : ℕ) → own ≡ 2 ^ e → v ≡ e → bit v (bit_xor m own) ≡ false
  gone own v h z = rw (h, z) (bit_xor_lem e m (2 ^ e) ∙ rw (on, bit_same e))

  taken_coded : (own : ℕ) → own ≡ 2 ^ e → Coded limit (set vs e true) (set near e 0) (bit_xor m own)
  taken_coded own h = record {
    low = c.low;
    capped = λ v b. elim (ℕ_discrete v e) [
      | yes z ↦ rw (z, get_or-set_same near e 0 0 (rw long taken_in.0)) (omega arith)
      | no z ↦ rw (get_or-set_other near e v 0 0 z) (c.capped v b)
    ];
    within = λ v o. elim (ℕ_discrete v e) [
      | yes z ↦ clash (bit v (bit_xor m own)) o (gone own v h z)
      | no z ↦ rw (get_or-set_other near e v 0 0 z) (c.within v (other own v h z o))
    ];
    zero = λ v b o. elim (ℕ_discrete v e) [
      | yes z ↦ rw z (get_or-set_same near e 0 0 (rw long taken_in.0))
      | no z ↦ get_or-set_other near e v 0 0 z ∙ c.zero v b (sym (get_or-set_other vs e v true false z) ∙ o)
    ];
    fresh = λ v o. elim (ℕ_discrete v e) [
      | yes z ↦ clash (bit v (bit_xor m own)) o (gone own v h z)
      | no z ↦ get_or-set_other vs e v true false z ∙ c.fresh v (other own v h z o)
    ];
    fringe = (taken_stepped 0 own h).fringe q;
  }

-- One step, after the arcs were gone along.
module _ (ls ms ps : List ℕ) (k e : ℕ) (before : List ℕ) (m : ℕ) (after : List ℕ) (r limit : ℕ) (vs : List Bool) (w : Looked ls ms ps k e before m after r limit vs)
    (u : ℕ) (is : u ≡ nearest_within (shown vs after) limit) where
  -- A step that takes no place.
  pub paced_none : u ≡ places → Paced ls ms ps k e before after (record { place = places; distance = k; stream = 0; fringe = r }) limit vs
  paced_none q = record {
    stepped = rw (← w.same) (step_none limit (shown vs after) k u r (shown (set vs places true) after) is q);
    coded = λ o. absurd (o refl);
  }

  -- A step that takes the nearest.
  pub paced_some : length vs ≡ places → length after ≡ places → (u ≡ places → ⊥) → (own : ℕ) → own ≡ 2 ^ u
      → Paced ls ms ps k e before (set after u 0) (record { place = u; distance = get_or after u 0 / numbering; stream = get_or after u 0 % numbering; fringe = bit_xor r own }) limit vs
  paced_some l long q own h = record {
    stepped = rw (← w.same) (taken_stepped limit vs after r u l long w.coded is q k own h);
    coded = λ o. taken_coded limit vs after r u l long w.coded is q own h;
  }
