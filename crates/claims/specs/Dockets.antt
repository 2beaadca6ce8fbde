-- The dockets of samples that are not in format's own samples.
use Rattle.std.specs.Prelude.{List, [], ◌∷◌, ◌++◌, ℕ, ◌/◌, ◌%◌, take, drop, set}
use Rattle.format.specs.Samples.{broadcast, majority}

-- Broadcast with its last node cut: N is 4, the offset of the leaves and the total are 87.
abbrev pub cut : List ℕ
cut = take 87 (set (set (set broadcast 8 4) 20 87) 22 87)

-- Broadcast with a node more: N is 6, the offset and the total are 111.
abbrev pub longer : List ℕ
longer = set (set (set broadcast 8 6) 20 111) 22 111 ++ 1 ∷ 2 ∷ 0 ∷ 0 ∷ 0 ∷ 0 ∷ 0 ∷ 0 ∷ 0 ∷ 0 ∷ 0 ∷ 0 ∷ []

-- Majority with layers and weights exchanged.
abbrev pub exchanged : List ℕ
exchanged =
    set (set (set (set
    (set (set (set (set (set (set (set (set majority
    48 0) 52 0) 56 1) 60 0) 64 1) 68 1) 72 0) 76 1)
    32 1) 37 1) 42 0) 47 0

-- The majority docket without its nodes 8 and 9, which make B absent at end 1: N is 15, the offset of the leaf 260, the
-- total 276.
abbrev pub without_absent : List ℕ
without_absent = set (set (set (set (set (take 176 majority ++ drop 200 majority) 8 15) 20 4) 21 1) 22 20) 23 1

-- A docket of version 2, 146 bytes (cert_rnd_4_028 of tests/corpus): both states are inputs, and two agents are fixed in state 0.
-- Its leaf has the weights -1 for end 2, and closes by the two.
abbrev pub input_fixed : List ℕ
input_fixed =
    2 ∷ 0 ∷ 2 ∷ 0 ∷ 4 ∷ 0 ∷ 2 ∷ 0 ∷ 6 ∷ 0 ∷ 1 ∷ 0 ∷ 24 ∷ 0 ∷ 30 ∷ 0 ∷ 50 ∷ 0 ∷ 66 ∷ 0 ∷ 138 ∷ 0 ∷ 146 ∷ 0
    ∷ 2 ∷ 2 ∷ 0 ∷ 3 ∷ 0 ∷ 0
    ∷ 0 ∷ 1 ∷ 0 ∷ 0 ∷ 0 ∷ 1 ∷ 1 ∷ 0 ∷ 0 ∷ 0 ∷ 1 ∷ 1 ∷ 0 ∷ 1 ∷ 0 ∷ 0 ∷ 1 ∷ 1 ∷ 1 ∷ 1
    ∷ 0 ∷ 0 ∷ 0 ∷ 0 ∷ 1 ∷ 0 ∷ 0 ∷ 0
    ∷ 1 ∷ 0 ∷ 0 ∷ 0 ∷ 0 ∷ 0 ∷ 0 ∷ 0
    ∷ 3 ∷ 2 ∷ 2 ∷ 0 ∷ 0 ∷ 0 ∷ 0 ∷ 0 ∷ 0 ∷ 0 ∷ 0 ∷ 0
    ∷ 4 ∷ 2 ∷ 1 ∷ 0 ∷ 0 ∷ 0 ∷ 0 ∷ 0 ∷ 0 ∷ 0 ∷ 0 ∷ 0
    ∷ 1 ∷ 2 ∷ 0 ∷ 0 ∷ 0 ∷ 0 ∷ 0 ∷ 0 ∷ 0 ∷ 0 ∷ 0 ∷ 0
    ∷ 3 ∷ 2 ∷ 0 ∷ 0 ∷ 0 ∷ 0 ∷ 0 ∷ 0 ∷ 0 ∷ 0 ∷ 0 ∷ 0
    ∷ 0 ∷ 0 ∷ 0 ∷ 0 ∷ 0 ∷ 0 ∷ 0 ∷ 0 ∷ 0 ∷ 0 ∷ 0 ∷ 0
    ∷ 2 ∷ 2 ∷ 1 ∷ 0 ∷ 0 ∷ 0 ∷ 0 ∷ 0 ∷ 0 ∷ 0 ∷ 0 ∷ 0
    ∷ 0 ∷ 0 ∷ 0 ∷ 0 ∷ 255 ∷ 255 ∷ 255 ∷ 255
    ∷ []

-- A weight of 32 bits, before the bytes that follow it.
abbrev pub word : ℕ → List ℕ → List ℕ
word w rest = w % 256 ∷ w / 256 % 256 ∷ w / 65536 % 256 ∷ w / 16777216 % 256 ∷ rest

-- Majority with all four rules in one layer, with these weights of A, B, a and b, and one node of zeros.
abbrev pub one_layer : ℕ → ℕ → ℕ → ℕ → List ℕ
one_layer x y z t =
    1 ∷ 0 ∷ 4 ∷ 0 ∷ 4 ∷ 0 ∷ 1 ∷ 0 ∷ 1 ∷ 0 ∷ 0 ∷ 0 ∷ 24 ∷ 0 ∷ 28 ∷ 0 ∷ 48 ∷ 0 ∷ 64 ∷ 0 ∷ 76 ∷ 0 ∷ 76 ∷ 0
    ∷ 2 ∷ 3 ∷ 0 ∷ 1
    ∷ 0 ∷ 1 ∷ 2 ∷ 3 ∷ 0 ∷ 0 ∷ 3 ∷ 0 ∷ 2 ∷ 0 ∷ 1 ∷ 2 ∷ 1 ∷ 3 ∷ 0 ∷ 2 ∷ 3 ∷ 3 ∷ 3 ∷ 0
    ∷ word x (word y (word z (word t
    (0 ∷ 0 ∷ 0 ∷ 0 ∷ 0 ∷ 0 ∷ 0 ∷ 0 ∷ 0 ∷ 0 ∷ 0 ∷ 0 ∷ []))))
