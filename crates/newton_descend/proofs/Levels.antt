-- Laws of potentials within bounds, and of potentials by label.
use Rattle.std.proofs.Common.{◌≡◌, ℕ, ◌+◌, ◌<◌, ◌≤◌, List, get_or, set, replicate, sym, ap, ◌∙◌, arith, length-set}
use lib.ListN.{length-map, length-replicate, get_or-replicate}
use Rattle.plant_def.specs.Limits.{places}
use Rattle.num_bytes.proofs.Lists.{map_at, set_each, Written, written_all}
use Rattle.newton_laplacian.specs.Ends.{Labels}
use Rattle.newton_descend.specs.Levels.{Banded, at_labels, Level}

module _ {top band : ℕ} where
  -- All potentials top.
  pub bounded_all : Banded top band (replicate places top)
  bounded_all = record {
    long = length-replicate places top;
    low = λ u l. omega (arith, get_or-replicate {A = ℕ} places u top 0 l);
    high = λ u l. omega (arith, get_or-replicate {A = ℕ} places u top 0 l);
  }

  -- One of them is another.
  pub bounded_set : {ps : List ℕ} → Banded top band ps → (u x : ℕ) → u < places → (x ≤ top) × (top ≤ x + band) → Banded top band (set ps u x)
  bounded_set {ps} b u x l h = record {
    long = length-set ps u x ∙ b.long;
    low = set_each (λ (y : ℕ). top ≤ y + band) 0 ps u x places (rw b.long l) h.1 b.low;
    high = set_each (λ (y : ℕ). y ≤ top) 0 ps u x places (rw b.long l) h.0 b.high;
  }

  -- The potentials of labels: within the same bounds, and one for each label.
  pub level_labels : {ps ls : List ℕ} → Banded top band ps → Labels ls → Level ls top band (at_labels ps ls)
  level_labels {ps} {ls} b w = record {
    bounded = record {
      long = length-map ls _ ∙ w.long;
      low = λ u l. rw (at u l) (b.low (get_or ls u 0) (w.within u l));
      high = λ u l. rw (at u l) (b.high (get_or ls u 0) (w.within u l));
    };
    level = λ u v l m e. at u l ∙ ap (λ (k : ℕ). get_or ps k 0) e ∙ sym (at v m);
  }
    where
      at : (u : ℕ) → u < places → get_or (at_labels ps ls) u 0 ≡ get_or ps (get_or ls u 0) 0
      at u l = map_at (λ k. get_or ps k 0) ls u 0 0 (omega (arith, w.long))

-- A loop has written the potential of each place's label.
pub labels_all : (ps ls : List ℕ) {before now : List ℕ} → Labels ls → Written 0 places (λ k x. get_or ps (get_or ls k 0) 0) before now places → now ≡ at_labels ps ls
labels_all ps ls w h =
    written_all h (at_labels ps ls) (length-map ls _ ∙ w.long)
    (λ k l. map_at (λ (m : ℕ). get_or ps m 0) ls k 0 0 (omega (arith, w.long)))
