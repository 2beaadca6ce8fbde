-- What is written reads as the same sections, and the sections of a docket write its bytes. Assumes nothing.
use Rattle.std.specs.Prelude.{◌≡◌, refl, List, [], ◌∷◌, ◌++◌, ℕ, zero, suc, ◌+◌, ◌*◌, ◌/◌, ◌%◌, ◌≤◌, ◌<◌, length, get_or, take, drop}
use Rattle.std.proofs.Common.{sym, ◌∙◌, subst, ⊎_elim, mod-eq_of_lt, arith, ne_eqb, le-ltb, take-append-drop, length-drop, take_at, take_all, drop-drop, drop-cons}
use Rattle.std.proofs.Math.Path.{ap}
use Rattle.std.proofs.Math.Nat.{mul-div_cancel_left}
use Rattle.std.proofs.Math.Arith.{digits_div, digits_mod}
use Rattle.std.proofs.Math.Seq.{drop-append-add}
use Rattle.theory.specs.Below.{Clear}
use Rattle.theory.specs.Judge.{Passes}
use Rattle.theory.proofs.Judge.Laws.{passes_both}
use Rattle.format.specs.Bytes.{le16, section}
use Rattle.format.specs.Code.Laws.{width_some}
use Rattle.format.specs.Format.{header_of, Sections, sections, sections_of, state_width, states_length, rules_length, layers_length, nodes_length, leaves_length}
use Rattle.format.specs.declared.Sizes.{Sizes}
use Rattle.format.specs.declared.Header.{Header}
use Rattle.format.specs.declared.Offsets.{Offsets}
use Rattle.shape.specs.Shape.{nth, count_faults, section_tests}
use Rattle.shape.specs.Sound.{IsVersion, Limits, Laid, SoundSections, SoundShape}
use Rattle.shape.proofs.SoundLaws.{sound_sections, sound_passes, sound_lengths}
use Rattle.shape.specs.Code.{Lengths}
use Rattle.leaf.specs.Leaf.{bad_leaf, leaf_test}
use Rattle.writer.specs.Write.{records, sizes_in, WholeRecords, AreBytes, offsets_for, header_for, put16, header_bytes, docket_of}
use Rattle.writer.specs.Write.{record_tests, room_test, write_tests}
use Rattle.writer.proofs.WriteLaws.{whole_clear, total-length, total_most}

-- ---- Reading what is written

low-high : (n : ℕ) → n < 65536 → n % 256 + 256 * (n / 256 % 256) ≡ n
low-high n h = omega arith

-- All numbers of the header of sizes within their limits have 16 bits.
module _ (z : Sizes) (some : z.version < 65536) (L : Limits z) where
  header_read : (rest : List ℕ) → header_of (header_bytes (header_for z) ++ rest) ≡ header_for z
  unfolding header_bytes le16
  header_read rest =
      let at = offsets_for z in
      let most = total_most z L in
      rw (
        low-high z.version some,
        low-high z.states (omega (arith, L.states_most)),
        low-high z.rules (omega (arith, L.rules_most)),
        low-high z.layers (omega (arith, L.layers_most)),
        low-high z.nodes (omega (arith, L.nodes_most)),
        low-high z.leaves (omega (arith, L.leaves_most)),
        low-high at.rules (omega (arith, most)),
        low-high at.layers (omega (arith, most)),
        low-high at.nodes (omega (arith, most)),
        low-high at.leaves (omega (arith, most)),
        low-high at.total (omega (arith, most)),
      )

-- A section behind others.
section-behind : (xs ys : List ℕ) (k n : ℕ) → section (xs ++ ys) (length xs + k) n ≡ section ys k n
section-behind xs ys k n = ap (take n) (drop-append-add xs ys k)

header_length : (h : Header) → length (header_bytes h) ≡ 24
unfolding header_bytes
header_length h = refl

-- The sections that stand behind 24 bytes, where their lengths are those of their records.
module _ (z : Sizes) (f s r l n v : List ℕ) (head : length f ≡ 24) (ss : length s ≡ states_length z) (rr : length r ≡ rules_length z)
    (ll : length l ≡ layers_length z) (nn : length n ≡ nodes_length z) (vv : length v ≡ leaves_length z) where
  abbrev b : List ℕ
  b = f ++ (s ++ (r ++ (l ++ (n ++ v))))

  abbrev at : Offsets
  at = offsets_for z

  -- k bytes behind the first 24.
  behind_header : (j k m : ℕ) → j ≡ 24 + k → section b j m ≡ section (s ++ (r ++ (l ++ (n ++ v)))) k m
  behind_header j k m e =
      let d : j ≡ length f + k = omega arith in
      ap (λ i. section b i m) d ∙ section-behind f (s ++ (r ++ (l ++ (n ++ v)))) k m

  behind-states : (j k m : ℕ) → j ≡ at.rules + k → section b j m ≡ section (r ++ (l ++ (n ++ v))) k m
  behind-states j k m e = behind_header j (length s + k) m (omega arith) ∙ section-behind s (r ++ (l ++ (n ++ v))) k m

  behind-rules : (j k m : ℕ) → j ≡ at.layers + k → section b j m ≡ section (l ++ (n ++ v)) k m
  behind-rules j k m e = behind-states j (length r + k) m (omega arith) ∙ section-behind r (l ++ (n ++ v)) k m

  behind-layers : (j k m : ℕ) → j ≡ at.nodes + k → section b j m ≡ section (n ++ v) k m
  behind-layers j k m e = behind-rules j (length l + k) m (omega arith) ∙ section-behind l (n ++ v) k m

  sections-behind : sections_of b (header_for z) ≡ sections s r l n v
  sections-behind =
      let es : section b 24 (states_length z) ≡ s =
      behind_header 24 0 (states_length z) (omega arith) ∙ take_at s (r ++ (l ++ (n ++ v))) (states_length z) ss in
      let er : section b at.rules (rules_length z) ≡ r =
      behind-states at.rules 0 (rules_length z) (omega arith) ∙ take_at r (l ++ (n ++ v)) (rules_length z) rr in
      let el : section b at.layers (layers_length z) ≡ l =
      behind-rules at.layers 0 (layers_length z) (omega arith) ∙ take_at l (n ++ v) (layers_length z) ll in
      let en : section b at.nodes (nodes_length z) ≡ n =
      behind-layers at.nodes 0 (nodes_length z) (omega arith) ∙ take_at n v (nodes_length z) nn in
      let ev : section b at.leaves (leaves_length z) ≡ v =
      behind-layers at.leaves (length n + 0) (leaves_length z) (omega arith) ∙ section-behind n v 0 (leaves_length z)
      ∙ take_all (leaves_length z) v (omega arith) in
      rw (es, er, el, en, ev)

-- The docket of x, of version 1 or 2.
module _ (v : ℕ) (x : Sections) (known : IsVersion v) (w : WholeRecords v x) (L : Limits (sizes_in v x)) where
  some : 0 < (sizes_in v x).states
  some = omega (arith, L.states_least)

  small : v < 65536
  small = ⊎_elim (λ (e : v ≡ 1). omega arith) (λ (e : v ≡ 2). omega arith) known

  pub header_same : header_of (docket_of v x) ≡ header_for (sizes_in v x)
  unfolding docket_of
  header_same = header_read (sizes_in v x) small L (x.states ++ (x.rules ++ (x.layers ++ (x.nodes ++ x.leaves))))

  pub sections_same : sections_of (docket_of v x) (header_for (sizes_in v x)) ≡ x
  unfolding docket_of
  sections_same =
      sections-behind (sizes_in v x) (header_bytes (header_for (sizes_in v x))) x.states x.rules x.layers x.nodes x.leaves
      (header_length (header_for (sizes_in v x))) w.states w.rules (w.layers some) w.nodes (w.leaves some)

  pub written_laid : Laid (docket_of v x) (header_for (sizes_in v x))
  written_laid = record {
    states = refl;
    rules = refl;
    layers = refl;
    nodes = refl;
    leaves = refl;
    total = refl;
    whole = sym (total-length v x w some);
  }

  -- It has a sound shape, where its records do.
  pub written_sound : Passes (section_tests (sizes_in v x) x) → SoundShape (docket_of v x) (header_for (sizes_in v x))
  written_sound p = record {
    header = sym header_same;
    version = known;
    limits = L;
    laid = written_laid;
    sections = subst (SoundSections (sizes_in v x)) (sym sections_same) (sound_sections (sizes_in v x) x p);
  }

-- ---- Writing what was read

-- n 16-bit numbers from byte k on, read and put again.
unfoldable again : ℕ → ℕ → List ℕ → List ℕ → List ℕ
again zero k b rest = rest
again (suc n) k b rest = put16 (le16 b k) (again n (k + 2) b rest)

two_bytes : (b : List ℕ) → AreBytes b → (k : ℕ) → k + 1 < length b → put16 (le16 b k) (drop (k + 2) b) ≡ drop k b
unfolding le16
two_bytes b bytes k h =
    let x = get_or b k 0 in
    let y = get_or b (k + 1) 0 in
    let sum : x + 256 * y ≡ y * 256 + x = omega arith in
    let low : (x + 256 * y) % 256 ≡ x = ap (λ n. n % 256) sum ∙ digits_mod y (bytes k) in
    let high : (x + 256 * y) / 256 % 256 ≡ y = ap (λ n. n / 256 % 256) sum ∙ ap (λ n. n % 256) (digits_div y (bytes k)) ∙ mod-eq_of_lt (bytes (k + 1)) in
    let one : suc k ≡ k + 1 = omega arith in
    let two : suc (k + 1) ≡ k + 2 = omega arith in
    let first : drop k b ≡ x ∷ drop (k + 1) b = drop-cons b k 0 (omega arith) ∙ ap (λ j. x ∷ drop j b) one in
    let second : drop (k + 1) b ≡ y ∷ drop (k + 2) b = drop-cons b (k + 1) 0 h ∙ ap (λ j. y ∷ drop j b) two in
    rw (low, high) (sym (first ∙ ap (λ l. x ∷ l) second))

again_same : (n k : ℕ) (b : List ℕ) → AreBytes b → k + 2 * n ≤ length b → again n k b (drop (k + 2 * n) b) ≡ drop k b
unfolding again
again_same zero k b bytes h = let e : k + 2 * 0 ≡ k = omega arith in ap (λ j. drop j b) e
again_same (suc n) k b bytes h =
    let e : k + 2 * suc n ≡ k + 2 + 2 * n = omega arith in
    ap (λ j. put16 (le16 b k) (again n (k + 2) b (drop j b))) e
    ∙ ap (put16 (le16 b k)) (again_same n (k + 2) b bytes (omega arith))
    ∙ two_bytes b bytes k (omega arith)

header_again : (b : List ℕ) → AreBytes b → 24 ≤ length b → header_bytes (header_of b) ++ drop 24 b ≡ b
unfolding header_bytes again
header_again b bytes h = again_same 12 0 b bytes h

-- A section, and what follows it.
section_join : (b rest : List ℕ) (k n j : ℕ) → j ≡ k + n → rest ≡ drop j b → section b k n ++ rest ≡ drop k b
section_join b rest k n j e d =
    ap (λ l. section b k n ++ l) (d ∙ ap (λ i. drop i b) e ∙ sym (drop-drop n k b)) ∙ take-append-drop n (drop k b)

records_of : (w q n : ℕ) → 0 < w → n ≡ w * q → records w n ≡ q
records_of w q n h e = rw (ne_eqb w 0 (λ z. omega arith), e) (mul-div_cancel_left q h)

-- The sections x of a docket b with header h, of version v.
module _ (b : List ℕ) (h : Header) (g : SoundShape b h) where
  abbrev v : ℕ
  v = h.sizes.version

  abbrev x : Sections
  x = sections_of b h

  abbrev N : Lengths b h
  N = sound_lengths b h g

  D : Laid b h
  D = g.laid

  L : Limits h.sizes
  L = g.limits

  pub sizes_same : sizes_in v x ≡ h.sizes
  sizes_same =
      let z = h.sizes in
      let s : records (state_width v) (length x.states) ≡ z.states = records_of (state_width v) z.states _ (width_some v).0 N.states in
      let wide : 0 < 4 * z.states = omega (arith, L.states_least) in
      let r : records 5 (length x.rules) ≡ z.rules = records_of 5 z.rules _ (omega arith) N.rules in
      let l : records (4 * z.states) (length x.layers) ≡ z.layers = records_of (4 * z.states) z.layers _ wide (omega (arith, N.layers)) in
      let n : records 12 (length x.nodes) ≡ z.nodes = records_of 12 z.nodes _ (omega arith) N.nodes in
      let k : records (4 * z.states) (length x.leaves) ≡ z.leaves = records_of (4 * z.states) z.leaves _ wide (omega (arith, N.leaves)) in
      rw (s, r, l, n, k)

  whole : WholeRecords v x
  whole = record {
    states = N.states ∙ ap (λ y. states_length y) (sym sizes_same);
    rules = N.rules ∙ ap (λ y. rules_length y) (sym sizes_same);
    layers = λ _. N.layers ∙ ap (λ y. layers_length y) (sym sizes_same);
    nodes = N.nodes ∙ ap (λ y. nodes_length y) (sym sizes_same);
    leaves = λ _. N.leaves ∙ ap (λ y. leaves_length y) (sym sizes_same);
  }

  pub offsets_same : header_for h.sizes ≡ h
  offsets_same = rw (← D.states, ← D.rules, ← D.layers, ← D.nodes, ← D.leaves, ← D.total)

  sections_join : x.states ++ (x.rules ++ (x.layers ++ (x.nodes ++ x.leaves))) ≡ drop 24 b
  sections_join =
      let at = h.at in
      let z = h.sizes in
      let v : x.leaves ≡ drop at.leaves b = take_all (leaves_length z) (drop at.leaves b) (simp length-drop (omega (arith, D.whole, D.total))) in
      let n = section_join b x.leaves at.nodes (nodes_length z) at.leaves D.leaves v in
      let l = section_join b (x.nodes ++ x.leaves) at.layers (layers_length z) at.nodes D.nodes n in
      let r = section_join b (x.layers ++ (x.nodes ++ x.leaves)) at.rules (rules_length z) at.layers D.layers l in
      section_join b (x.rules ++ (x.layers ++ (x.nodes ++ x.leaves))) at.states (states_length z) at.rules D.rules r
      ∙ ap (λ i. drop i b) D.states

  pub written-again : AreBytes b → docket_of v x ≡ b
  unfolding docket_of
  written-again bytes =
      ap (λ z. header_bytes (header_for z) ++ (x.states ++ (x.rules ++ (x.layers ++ (x.nodes ++ x.leaves))))) sizes_same
      ∙ ap (λ f. header_bytes f ++ (x.states ++ (x.rules ++ (x.layers ++ (x.nodes ++ x.leaves))))) (offsets_same ∙ g.header)
      ∙ ap (λ l. header_bytes (header_of b) ++ l) sections_join
      ∙ header_again b bytes (omega (arith, D.whole, D.total, D.leaves, D.nodes, D.layers, D.rules, D.states))

  -- All tests pass.
  pub again-passes : AreBytes b → Clear (bad_leaf h.sizes x.leaves) h.sizes.leaves → (room : ℕ) → length b ≤ room
      → Passes (write_tests v x room)
  again-passes bytes clear room fits =
      let shape = sound_passes b h g in
      let z = h.sizes in (
        shape.1.0,
        (
          whole_clear v x whole,
          (
            subst (λ y. Clear (nth (count_faults y)) 5) (sym sizes_same) shape.1.1.0,
            passes_both (record_tests (sizes_in v x) x) (room_test v x room ∷ [])
                (subst (λ y. Passes (record_tests y x)) (sym sizes_same)
                (passes_both (section_tests z x) (leaf_test z x.leaves ∷ []) shape.1.1.1.1 (clear, tt)))
                ((λ k l. le-ltb room (length (docket_of v x)) (omega (arith, ap length (written-again bytes)))), tt),
          ),
        ),
      )
