-- A text can hold each sample network.
use Rattle.std.proofs.Common.{◌≡◌, ◌≢◌, ℕ, ◌+◌, ◌-◌, ◌*◌, ◌/◌, ◌%◌, ◌^◌, ◌<◌, ◌≤◌, false, true, List, [], ◌∷◌, length, map, get_or, drop, All, Ok, refl, sym, ap, subst, ◌∙◌, arith, decimal}
use Rattle.std.specs.Int.{IsInRange}
use Rattle.std.specs.List.{range_with_len}
use Rattle.std.specs.Str.Parse.{AllDigits}
use Rattle.std.proofs.Math.Nat.{mod-lt}
use Rattle.std.proofs.lemmas.Bool.Decides.{nat_tests}
use Rattle.std.proofs.lemmas.Fmt.{decimal_is_IsNumeral, decimal_injective, length-decimal-le}
use Rattle.std.proofs.lemmas.List.{append-nil, get_or_default, map-append, length-map}
use Rattle.std.proofs.lemmas.List.Elements.{All-nil, All-cons, All-append}
use Rattle.std.proofs.lemmas.List.FromFn.{length-map-range_with_len}
use Rattle.std.proofs.lemmas.Simd.{map-map}
use Rattle.std.proofs.lemmas.Str.Parse.{digit_at}
use Rattle.scaled_numbers.specs.Canonical.{grains_text}
use Rattle.scaled_numbers.specs.Scanning.{decimal_of}
use Rattle.snd_lexer.specs.declared.token.Dialect.TheVariants as dialects
use Rattle.snd_lexer.specs.Cutting.{is_word}
use Rattle.snd_network.specs.declared.file.NodeRecord.{NodeRecord}
use Rattle.snd_network.specs.declared.file.LinkRecord.{LinkRecord}
use Rattle.snd_network.specs.declared.file.DemandRecord.{DemandRecord}
use Rattle.snd_network.specs.Tests.{is_sign, checked_coordinate}
use Rattle.snd_network.specs.WellFormed.{IsWord, IsName, IsCoordinateWord, IsModule, IsGoodNode, IsGoodLink, IsGoodDemand, AreDifferent, IsWellFormed}
use Rattle.instance_maker.specs.Draws.{next_state, state_after, draw}
use Rattle.instance_maker.specs.Samples.{sample_node, sample_modules, ring_link, chord, ring_links, after_ring, chords, after_chords, sample_demand, sample_links, sample_network}
use Rattle.instance_maker.proofs.Numbered.{numbered_at, all_numbered, pairs_numbered, pairs_append}

-- what is written is read back
abbrev IsReadBack : Type 0
IsReadBack = (value scale : ℕ) → scale ≤ 12 → value < 10 ^ (12 + scale) → decimal_of (grains_text value scale) scale ≡ Ok value

-- ---- words

word-byte : (byte : ℕ) → IsInRange 48 57 byte → is_word dialects.Network byte ≡ true
word-byte byte h = grind (arith, nat_tests)

word-bytes : (n : ℕ) → n < 2 ^ 64 → All (λ byte. is_word dialects.Network byte ≡ true) (decimal n)
word-bytes n small i d within =
    let digit = digit_at (decimal n) i (decimal_is_IsNumeral n small).0.1 within in
    rw (get_or_default (decimal n) i d 0 within) (word-byte (get_or (decimal n) i 0) digit)

digits-word : (n : ℕ) → n < 2 ^ 64 → IsWord (decimal n)
digits-word n small = record { some = (decimal_is_IsNumeral n small).0.0; word_bytes = word-bytes n small }

short : (n : ℕ) → n < 4096 → length (decimal n) ≤ 4
short n small = length-decimal-le 4 n (omega arith) (omega arith) (omega arith)

-- a letter and a number
named : (letter n : ℕ) → is_word dialects.Network letter ≡ true → n < 4096 → IsName (letter ∷ decimal n)
named letter n is_letter small = record {
  word = record {
    some = omega arith;
    word_bytes = All-cons (λ byte. is_word dialects.Network byte ≡ true) letter (decimal n) is_letter (word-bytes n (omega arith));
  };
  short = omega (arith, short n small);
}

-- names of different numbers
apart : (letter i j : ℕ) → i < j → j < 4096 → letter ∷ decimal i ≢ letter ∷ decimal j
apart letter i j before small e =
    let same : decimal i ≡ decimal j = ap (λ (bytes : List ℕ). drop 1 bytes) e in
    let equal : i ≡ j = decimal_injective i j (omega arith) (omega arith) same in
    absurd (omega (arith, equal, before))

no-sign : (byte : ℕ) → IsInRange 48 57 byte → is_sign byte ≡ false
no-sign byte h = grind (arith, nat_tests)

read-coordinate : (bytes : List ℕ) (v : ℕ) → 0 < length bytes → AllDigits 10 bytes → decimal_of bytes 6 ≡ Ok v → checked_coordinate bytes ≡ Ok tt
read-coordinate [] v some digits read = absurd (omega arith)
read-coordinate (byte ∷ bytes) v some digits read = rw (no-sign byte (digit_at (byte ∷ bytes) 0 digits some), read) refl

module _ (back : IsReadBack) where
  -- a number is the millionths of so many units
  is-units : (n : ℕ) → grains_text (n * 10 ^ 6) 6 ≡ decimal n
  unfolding grains_text
  is-units n =
      let whole : n * 10 ^ 6 / 10 ^ 6 ≡ n = omega arith in
      let none : n * 10 ^ 6 % 10 ^ 6 ≡ 0 = omega arith in
      rw (whole, none) (append-nil (decimal n))

  coordinate : (n : ℕ) → n < 4096 → IsCoordinateWord (decimal n)
  coordinate n small =
      let numeral = decimal_is_IsNumeral n (omega arith) in
      let read : decimal_of (decimal n) 6 ≡ Ok (n * 10 ^ 6) = ap (λ (bytes : List ℕ). decimal_of bytes 6) (sym (is-units n)) ∙ back (n * 10 ^ 6) 6 (omega arith) (omega arith) in
      record {
        word = digits-word n (omega arith);
        short = omega (arith, short n small);
        number = read-coordinate (decimal n) (n * 10 ^ 6) numeral.0.0 numeral.0.1 read;
      }

  good-node : (i : ℕ) → i < 4096 → IsGoodNode (sample_node i)
  good-node i small = record { name = named 110 i refl small; place = (coordinate i small, coordinate 0 (omega arith)) }

-- ---- links and demands

-- a draw is below its bound
pub drawn_below : (state bound : ℕ) → 0 < bound → draw state bound < bound
drawn_below state bound some = mod-lt (next_state state / 65536) some

good-modules : (state : ℕ) → All IsModule (sample_modules state)
good-modules state =
    let small = drawn_below state 20 (omega arith) in
    let large = drawn_below (next_state state) 40 (omega arith) in
    All-cons IsModule (get_or (sample_modules state) 0 (0, 0)) (get_or (sample_modules state) 1 (0, 0) ∷ []) (omega arith, omega (arith, small))
    (All-cons IsModule (get_or (sample_modules state) 1 (0, 0)) [] (omega arith, omega (arith, large)) (All-nil IsModule))

good-ring : (nodes state i : ℕ) → i < nodes → nodes ≤ 64 → IsGoodLink nodes (ring_link nodes state i)
good-ring nodes state i within few = record {
  name = named 114 i refl (omega arith);
  source = within;
  target = mod-lt (i + 1) (omega arith);
  pre = omega arith;
  pre_cost = omega arith;
  routing = omega arith;
  setup = omega arith;
  modules = good-modules state;
}

good-chord : (nodes state i : ℕ) → i < nodes → nodes ≤ 64 → IsGoodLink nodes (chord nodes state i)
good-chord nodes state i within few = record {
  name = named 99 i refl (omega arith);
  source = within;
  target = mod-lt (i + 2 + draw state (nodes - 3)) (omega arith);
  pre = omega arith;
  pre_cost = omega arith;
  routing = omega arith;
  setup = omega arith;
  modules = good-modules (next_state state);
}

good-demand : (nodes state i : ℕ) → 4 ≤ nodes → i < 4096 → IsGoodDemand nodes (sample_demand nodes state i)
good-demand nodes state i some small = record {
  name = named 107 i refl small;
  source = drawn_below state nodes (omega arith);
  target = mod-lt (draw state nodes + 1 + draw (next_state state) (nodes - 1)) (omega arith);
  unit = omega arith;
  value = omega (arith, drawn_below (next_state (next_state state)) 9 (omega arith));
  hops = tt;
}

-- ---- names that differ

different : {X : Type 0} (name : X → List ℕ) (letter : ℕ) (f : ℕ → X) (n : ℕ) → ((i : ℕ) → name (f i) ≡ letter ∷ decimal i) → n ≤ 4096 → AreDifferent (map name (map f (range_with_len 0 n)))
different name letter f n is few =
    subst AreDifferent (sym (map-map name f (range_with_len 0 n)))
    (pairs_numbered (λ a b. a ≢ b) (λ i. name (f i)) n (λ i j before below e. apart letter i j before (omega arith) (sym (is i) ∙ e ∙ is j)))

name-at : {X : Type 0} (name : X → List ℕ) (letter : ℕ) (f : ℕ → X) (n i : ℕ) (d : List ℕ) → ((i : ℕ) → name (f i) ≡ letter ∷ decimal i) → i < length (map name (map f (range_with_len 0 n))) → get_or (map name (map f (range_with_len 0 n))) i d ≡ letter ∷ decimal i
name-at name letter f n i d is within =
    let below : i < n = omega (arith, within, length-map (map f (range_with_len 0 n)) name, length-map-range_with_len f 0 n) in
    ap (λ names. get_or names i d) (map-map name f (range_with_len 0 n)) ∙ numbered_at (λ i. name (f i)) n i d below ∙ is i

-- names with different letters
unlike : (i j : ℕ) → 114 ∷ decimal i ≢ 99 ∷ decimal j
unlike i j e = let same : 114 ≡ 99 = ap (λ (bytes : List ℕ). get_or bytes 0 0) e in absurd (omega (arith, same))

different-links : (number nodes : ℕ) → 4 ≤ nodes → nodes ≤ 64 → AreDifferent (map (λ (l : LinkRecord). l.name) (sample_links number nodes))
different-links number nodes some few =
    let name : LinkRecord → List ℕ = λ l. l.name in
    let state = after_ring number nodes in
    let round : ℕ → LinkRecord = λ i. ring_link nodes (state_after number (2 * i)) i in
    let across : ℕ → LinkRecord = λ i. chord nodes (state_after state (3 * i)) i in
    subst AreDifferent (sym (map-append name (ring_links number nodes) (chords state nodes)))
    (pairs_append (λ a b. a ≢ b) (map name (ring_links number nodes)) (map name (chords state nodes))
    (different name 114 round nodes (λ i. refl) (omega arith))
    (different name 99 across (nodes / 2) (λ i. refl) (omega arith))
    (λ i j d low high e. unlike i j (sym (name-at name 114 round nodes i d (λ i. refl) low) ∙ e ∙ name-at name 99 across (nodes / 2) j d (λ i. refl) high)))

-- a sample network can be spelled as a text and read back
pub formed : IsReadBack → (number nodes demands : ℕ) → 4 ≤ nodes → nodes ≤ 64 → demands ≤ 4096 → IsWellFormed (sample_network number nodes demands)
formed back number nodes demands some few within =
    let count : length (map sample_node (range_with_len 0 nodes)) ≡ nodes = length-map-range_with_len sample_node 0 nodes in
    let state = after_chords (after_ring number nodes) nodes in
    record {
      nodes = all_numbered IsGoodNode sample_node nodes (λ i below. good-node back i (omega arith));
      links = rw count (All-append (IsGoodLink nodes) (ring_links number nodes) (chords (after_ring number nodes) nodes)
          (all_numbered (IsGoodLink nodes) (λ i. ring_link nodes (state_after number (2 * i)) i) nodes (λ i below. good-ring nodes (state_after number (2 * i)) i below few))
          (all_numbered (IsGoodLink nodes) (λ i. chord nodes (state_after (after_ring number nodes) (3 * i)) i) (nodes / 2) (λ i below. good-chord nodes (state_after (after_ring number nodes) (3 * i)) i (omega arith) few)));
      demands = rw count (all_numbered (IsGoodDemand nodes) (λ i. sample_demand nodes (state_after state (3 * i)) i) demands (λ i below. good-demand nodes (state_after state (3 * i)) i some (omega arith)));
      apart_nodes = different (λ (n : NodeRecord). n.name) 110 sample_node nodes (λ i. refl) (omega arith);
      apart_links = different-links number nodes some few;
      apart_demands = different (λ (d : DemandRecord). d.name) 107 (λ i. sample_demand nodes (state_after state (3 * i)) i) demands (λ i. refl) within;
    }
