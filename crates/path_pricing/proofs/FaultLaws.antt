-- What is found has no fault exactly where it has with it what shows it.
use Rattle.std.proofs.Common.{◌≡◌, ℕ, ◌+◌, ◌≤◌, ◌*◌, Bool, true, false, not, ◌&&◌, ◌==◌, nat_lt, List, length, None, refl}
use Rattle.std.proofs.lemmas.Bool.{eqb-true, eq-eqb, ltb-false, le-ltb}
use Rattle.plan_base.specs.declared.ids.ArcId.{ArcId}
use Rattle.plan_base.specs.declared.parts.Parts.{Parts}
use Rattle.plan_base.specs.First.{◌or_else◌, when}
use Rattle.plan_base.specs.Arcs.{tail_of, head_of, demand_at}
use Rattle.plan_base.proofs.Bools.{and-first, not-false, not-true}
use Rattle.plan_base.proofs.FirstFault.{or_else-none, when-none, none-when, none-or_else, first_fault-none, none-first_fault}
use Rattle.arc_restrict.specs.Restrictions.{Forbidden}
use Rattle.arc_restrict.specs.Prices.{price_of}
use Rattle.path_pricing.specs.declared.priced.Priced.{Priced}
use Rattle.path_pricing.specs.declared.priced.Priced.TheVariants.{Path, NoPath}
use Rattle.path_pricing.specs.declared.priced.Unfit.TheVariants.{WrongLength, BadSet, Dearer, NotClosed}
use Rattle.path_pricing.specs.Priced.{is_open, price_at, potential_at, holds, IsShownPath, IsClosedSet, IsShown, IsPriced}
use Rattle.path_pricing.specs.Faults.{arc_id, walk_fault, dearer_fault, first_dearer, length_fault, path_fault, shape_fault, leaving_fault, first_leaving, set_fault, priced_fault}
use Rattle.path_pricing.proofs.PlaceLaws.{arc-within, IsPermittedPath-walk_fault, walk_fault-IsPermittedPath}
use Rattle.path_pricing.proofs.ShownLaws.{IsPriced-IsShown}

by_and-false : (a b : Bool) → (a ≡ true → b ≡ false) → (a && b) ≡ false
by_and-false true b h = h refl
by_and-false false b h = refl

and-false_second : (a b : Bool) → a ≡ true → (a && b) ≡ false → b ≡ false
and-false_second a b is h = rw is at h

low-dearer_fault : (p : Parts) (prices : List ℕ) (k : ℕ) (r : Forbidden) (potentials : List ℕ) (a : ArcId) → dearer_fault p prices k r potentials a ≡ None → is_open p r k a ≡ true → potential_at potentials (head_of p a) ≤ potential_at potentials (tail_of p a) + price_at p prices a
unfolding dearer_fault
low-dearer_fault p prices k r potentials a h is =
    let less = nat_lt (potential_at potentials (tail_of p a) + price_at p prices a) (potential_at potentials (head_of p a)) in
    ltb-false _ _ (and-false_second (is_open p r k a) less is (when-none (is_open p r k a && less) (Dearer a) h))

dearer_fault-low : (p : Parts) (prices : List ℕ) (k : ℕ) (r : Forbidden) (potentials : List ℕ) (a : ArcId) → (is_open p r k a ≡ true → potential_at potentials (head_of p a) ≤ potential_at potentials (tail_of p a) + price_at p prices a) → dearer_fault p prices k r potentials a ≡ None
unfolding dearer_fault
dearer_fault-low p prices k r potentials a h =
    none-when _ _ (by_and-false (is_open p r k a) _ (λ is. le-ltb _ _ (h is)))

-- potentials of which no arc is dearer rise along each permitted arc
low-first_dearer : (p : Parts) (prices : List ℕ) (k : ℕ) (r : Forbidden) (potentials : List ℕ) → first_dearer p prices k r potentials ≡ None → (a : ArcId) → is_open p r k a ≡ true → potential_at potentials (head_of p a) ≤ potential_at potentials (tail_of p a) + price_at p prices a
low-first_dearer p prices k r potentials none a is =
    low-dearer_fault p prices k r potentials a
    (first_fault-none (λ n. dearer_fault p prices k r potentials (arc_id n)) (2 * length p.links) none a.0 (arc-within p a (and-first _ _ is))) is

length-shown : (p : Parts) (prices : List ℕ) (k : ℕ) (r : Forbidden) (path : List ArcId) (price : ℕ) (potentials : List ℕ) → walk_fault p (demand_at p k) (r k) path ≡ None
    → length potentials ≡ p.nodes → first_dearer p prices k r potentials ≡ None → length_fault p prices (demand_at p k) path price potentials ≡ None → IsShownPath p prices k r path price potentials
unfolding length_fault
length-shown p prices k r path price potentials walk count rise h =
    let source = when (not (potential_at potentials (demand_at p k).source == 0)) WrongLength in
    let target = when (not (potential_at potentials (demand_at p k).target == price)) WrongLength in
    let length_ = when (not (price_of p prices path == price)) WrongLength in
    let one = or_else-none source (target or_else length_) h in
    let two = or_else-none target length_ one.1 in
    record {
      permitted = IsPermittedPath-walk_fault p k r path walk;
      price_is = eqb-true _ _ (not-false _ (when-none _ _ two.1));
      potentials_rise = record {
        count = count;
        at_source = eqb-true _ _ (not-false _ (when-none _ _ one.0));
        at_target = eqb-true _ _ (not-false _ (when-none _ _ two.0));
        along = low-first_dearer p prices k r potentials rise;
      };
    }

path-shown : (p : Parts) (prices : List ℕ) (k : ℕ) (r : Forbidden) (path : List ArcId) (price : ℕ) (potentials : List ℕ) → path_fault p prices k r path price potentials ≡ None → IsShownPath p prices k r path price potentials
unfolding path_fault
path-shown p prices k r path price potentials h =
    let count = when (not (length potentials == p.nodes)) WrongLength in
    let rise = first_dearer p prices k r potentials in
    let length_ = length_fault p prices (demand_at p k) path price potentials in
    let one = or_else-none (walk_fault p (demand_at p k) (r k) path) (count or_else rise or_else length_) h in
    let two = or_else-none count (rise or_else length_) one.1 in
    let three = or_else-none rise length_ two.1 in
    length-shown p prices k r path price potentials one.0 (eqb-true _ _ (not-false _ (when-none _ _ two.0))) three.0 three.1

length_fault-shown : (p : Parts) (prices : List ℕ) (k : ℕ) (r : Forbidden) (path : List ArcId) (price : ℕ) (potentials : List ℕ) → IsShownPath p prices k r path price potentials → length_fault p prices (demand_at p k) path price potentials ≡ None
unfolding length_fault
length_fault-shown p prices k r path price potentials h =
    none-or_else _ _ (none-when _ _ (not-true _ (eq-eqb _ _ h.potentials_rise.at_source)))
    (none-or_else _ _ (none-when _ _ (not-true _ (eq-eqb _ _ h.potentials_rise.at_target))) (none-when _ _ (not-true _ (eq-eqb _ _ h.price_is))))

path_fault-shown : (p : Parts) (prices : List ℕ) (k : ℕ) (r : Forbidden) (path : List ArcId) (price : ℕ) (potentials : List ℕ) → IsShownPath p prices k r path price potentials → path_fault p prices k r path price potentials ≡ None
unfolding path_fault
path_fault-shown p prices k r path price potentials h =
    none-or_else _ _ (walk_fault-IsPermittedPath p k r path h.permitted)
    (none-or_else _ _ (none-when _ _ (not-true _ (eq-eqb _ _ h.potentials_rise.count)))
    (none-or_else _ _
    (none-first_fault (λ n. dearer_fault p prices k r potentials (arc_id n)) (2 * length p.links) (λ n below. dearer_fault-low p prices k r potentials (arc_id n) (h.potentials_rise.along (arc_id n))))
    (length_fault-shown p prices k r path price potentials h)))

stays-leaving_fault : (p : Parts) (k : ℕ) (r : Forbidden) (reached : List Bool) (a : ArcId) → leaving_fault p k r reached a ≡ None → is_open p r k a ≡ true → holds reached (tail_of p a) ≡ true → holds reached (head_of p a) ≡ true
unfolding leaving_fault
stays-leaving_fault p k r reached a h is tail =
    let leaves = holds reached (tail_of p a) && not (holds reached (head_of p a)) in
    not-false _ (and-false_second (holds reached (tail_of p a)) _ tail (and-false_second (is_open p r k a) leaves is (when-none (is_open p r k a && leaves) (NotClosed a) h)))

leaving_fault-stays : (p : Parts) (k : ℕ) (r : Forbidden) (reached : List Bool) (a : ArcId) → (is_open p r k a ≡ true → holds reached (tail_of p a) ≡ true → holds reached (head_of p a) ≡ true) → leaving_fault p k r reached a ≡ None
unfolding leaving_fault
leaving_fault-stays p k r reached a h =
    none-when _ _ (by_and-false (is_open p r k a) _ (λ is. by_and-false (holds reached (tail_of p a)) _ (λ tail. not-true _ (h is tail))))

shape-shown : (p : Parts) (k : ℕ) (r : Forbidden) (reached : List Bool) → shape_fault p (demand_at p k) reached ≡ None → first_leaving p k r reached ≡ None → IsClosedSet p k r reached
unfolding shape_fault
shape-shown p k r reached h none =
    let count = when (not (length reached == p.nodes)) BadSet in
    let source = when (not (holds reached (demand_at p k).source)) BadSet in
    let target = when (holds reached (demand_at p k).target) BadSet in
    let one = or_else-none count (source or_else target) h in
    let two = or_else-none source target one.1 in
    record {
      count = eqb-true _ _ (not-false _ (when-none _ _ one.0));
      source = not-false _ (when-none _ _ two.0);
      target = when-none _ _ two.1;
      closed = λ a is. stays-leaving_fault p k r reached a (first_fault-none (λ n. leaving_fault p k r reached (arc_id n)) (2 * length p.links) none a.0 (arc-within p a (and-first _ _ is))) is;
    }

set-shown : (p : Parts) (k : ℕ) (r : Forbidden) (reached : List Bool) → set_fault p k r reached ≡ None → IsClosedSet p k r reached
unfolding set_fault
set-shown p k r reached h =
    let both = or_else-none (shape_fault p (demand_at p k) reached) (first_leaving p k r reached) h in
    shape-shown p k r reached both.0 both.1

shape_fault-shown : (p : Parts) (k : ℕ) (r : Forbidden) (reached : List Bool) → IsClosedSet p k r reached → shape_fault p (demand_at p k) reached ≡ None
unfolding shape_fault
shape_fault-shown p k r reached h =
    none-or_else _ _ (none-when _ _ (not-true _ (eq-eqb _ _ h.count)))
    (none-or_else _ _ (none-when _ _ (not-true _ h.source)) (none-when _ _ h.target))

set_fault-shown : (p : Parts) (k : ℕ) (r : Forbidden) (reached : List Bool) → IsClosedSet p k r reached → set_fault p k r reached ≡ None
unfolding set_fault
set_fault-shown p k r reached h =
    none-or_else _ _ (shape_fault-shown p k r reached h)
    (none-first_fault (λ n. leaving_fault p k r reached (arc_id n)) (2 * length p.links) (λ n below. leaving_fault-stays p k r reached (arc_id n) (h.closed (arc_id n))))

-- what is found without a fault has with it what shows it
pub IsShown-priced_fault : (p : Parts) (prices : List ℕ) (k : ℕ) (r : Forbidden) (found : Priced) → priced_fault p prices k r found ≡ None → IsShown p prices k r found
IsShown-priced_fault p prices k r (Path path price potentials) h = path-shown p prices k r path price potentials h
IsShown-priced_fault p prices k r (NoPath reached) h = set-shown p k r reached h

-- what is found with what shows it has no fault
pub priced_fault-IsShown : (p : Parts) (prices : List ℕ) (k : ℕ) (r : Forbidden) (found : Priced) → IsShown p prices k r found → priced_fault p prices k r found ≡ None
priced_fault-IsShown p prices k r (Path path price potentials) h = path_fault-shown p prices k r path price potentials h
priced_fault-IsShown p prices k r (NoPath reached) h = set_fault-shown p k r reached h

-- what is found without a fault is so: a least path, or that there is no permitted path
pub IsPriced-priced_fault : (p : Parts) (prices : List ℕ) (k : ℕ) (r : Forbidden) (found : Priced) → priced_fault p prices k r found ≡ None → IsPriced p prices k r found
IsPriced-priced_fault p prices k r found h = IsPriced-IsShown p prices k r found (IsShown-priced_fault p prices k r found h)

-- what has no fault is shown and is so, and what is shown has no fault
pub ruleset fault_laws = (IsShown-priced_fault, priced_fault-IsShown, IsPriced-priced_fault)
