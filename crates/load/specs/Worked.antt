-- The figures of every hall from n = 2 to 8 and k = 1 to 3, and small halls counted.
-- Request K13.
use Rattle.std.specs.Prelude.{◌≡◌, refl, List, [], ◌∷◌, ◌++◌, map, ℕ, suc, ◌+◌}
use Rattle.combine.specs.Lists.{up_to}
use Rattle.sums.specs.Sums.{sum, one, product}
use Rattle.hall.specs.Cells.{t, g, cell, same, sub, port, end, near, far}
use Rattle.route.specs.Routes.{route, hops, of_level}
use Rattle.load.specs.Counts.{has, starts, over, carries, sends, takes, begins, all_links}
use Rattle.load.specs.Figures.{share, paper_rest, ways, load, cable, loads}

-- n, k, t(k), what the cable to the switch and the link of each level from 1 to k carry, what the port of each level from 0 to k begins
abbrev pub Row : Type 0
Row = ℕ × ℕ × ℕ × List ℕ × List ℕ

unfoldable pub row : ℕ → ℕ → Row
row n k = (n, k, t n k, cable n k ∷ up_to (λ a. load n k (suc a)) k, up_to (share n k) (k + 1))

-- the halls of k = 1 to 3, each with n = 2 to 8
abbrev pub halls : List (ℕ × ℕ)
halls =
    (2, 1) ∷ (3, 1) ∷ (4, 1) ∷ (5, 1) ∷ (6, 1) ∷ (7, 1) ∷ (8, 1)
    ∷ (2, 2) ∷ (3, 2) ∷ (4, 2) ∷ (5, 2) ∷ (6, 2) ∷ (7, 2) ∷ (8, 2)
    ∷ (2, 3) ∷ (3, 3) ∷ (4, 3) ∷ (5, 3) ∷ (6, 3) ∷ (7, 3) ∷ (8, 3)
    ∷ []

abbrev pub rows : List Row
rows =
    (2, 1, 6, 5 ∷ 4 ∷ [], 3 ∷ 2 ∷ [])
    ∷ (3, 1, 12, 14 ∷ 9 ∷ [], 8 ∷ 3 ∷ [])
    ∷ (4, 1, 20, 27 ∷ 16 ∷ [], 15 ∷ 4 ∷ [])
    ∷ (5, 1, 30, 44 ∷ 25 ∷ [], 24 ∷ 5 ∷ [])
    ∷ (6, 1, 42, 65 ∷ 36 ∷ [], 35 ∷ 6 ∷ [])
    ∷ (7, 1, 56, 90 ∷ 49 ∷ [], 48 ∷ 7 ∷ [])
    ∷ (8, 1, 72, 119 ∷ 64 ∷ [], 63 ∷ 8 ∷ [])
    ∷ (2, 2, 42, 65 ∷ 52 ∷ 36 ∷ [], 21 ∷ 14 ∷ 6 ∷ [])
    ∷ (3, 2, 156, 350 ∷ 225 ∷ 144 ∷ [], 104 ∷ 39 ∷ 12 ∷ [])
    ∷ (4, 2, 420, 1107 ∷ 656 ∷ 400 ∷ [], 315 ∷ 84 ∷ 20 ∷ [])
    ∷ (5, 2, 930, 2684 ∷ 1525 ∷ 900 ∷ [], 744 ∷ 155 ∷ 30 ∷ [])
    ∷ (6, 2, 1806, 5525 ∷ 3060 ∷ 1764 ∷ [], 1505 ∷ 258 ∷ 42 ∷ [])
    ∷ (7, 2, 3192, 10170 ∷ 5537 ∷ 3136 ∷ [], 2736 ∷ 399 ∷ 56 ∷ [])
    ∷ (8, 2, 5256, 17255 ∷ 9280 ∷ 5184 ∷ [], 4599 ∷ 584 ∷ 72 ∷ [])
    ∷ (2, 3, 1806, 5525 ∷ 4420 ∷ 3060 ∷ 1764 ∷ [], 903 ∷ 602 ∷ 258 ∷ 42 ∷ [])
    ∷ (3, 3, 24492, 109550 ∷ 70425 ∷ 45072 ∷ 24336 ∷ [], 16328 ∷ 6123 ∷ 1884 ∷ 156 ∷ [])
    ∷ (4, 3, 176820, 930987 ∷ 551696 ∷ 336400 ∷ 176400 ∷ [], 132615 ∷ 35364 ∷ 8420 ∷ 420 ∷ [])
    ∷ (5, 3, 865830, 4994924 ∷ 2838025 ∷ 1674900 ∷ 864900 ∷ [], 692664 ∷ 144305 ∷ 27930 ∷ 930 ∷ [])
    ∷ (6, 3, 3263442, 19961825 ∷ 11055780 ∷ 6373332 ∷ 3261636 ∷ [], 2719535 ∷ 466206 ∷ 75894 ∷ 1806 ∷ [])
    ∷ (7, 3, 10192056, 64935450 ∷ 35353745 ∷ 20023360 ∷ 10188864 ∷ [], 8736048 ∷ 1274007 ∷ 178808 ∷ 3192 ∷ [])
    ∷ (8, 3, 27630792, 181401815 ∷ 97560640 ∷ 54499392 ∷ 27625536 ∷ [], 24176943 ∷ 3070088 ∷ 378504 ∷ 5256 ∷ [])
    ∷ []

pub figures : map (λ (h : ℕ × ℕ). row h.0 h.1) halls ≡ rows
unfolding row up_to cable load ways share product g t
figures = refl

-- the paper's figures for level 0, one more each, for n = 4 and k = 1 to 3
pub paper_rests : map (paper_rest 4) (1 ∷ 2 ∷ 3 ∷ []) ≡ 16 ∷ 316 ∷ 132616 ∷ []
unfolding paper_rest sum share product g t
paper_rests = refl

-- counted: the ports of server 7 for n = 4, k = 1 and k = 2, as the figures have them
pub ports_of_7 : map (λ (k : ℕ). up_to (begins 4 k 7) (k + 1)) (1 ∷ 2 ∷ []) ≡ (15 ∷ 4 ∷ []) ∷ (315 ∷ 84 ∷ 20 ∷ []) ∷ []
unfolding up_to begins sum one starts hops of_level route same near far end port sub cell t
ports_of_7 = refl

-- counted: for n = 2, k = 2, what the links of server 5 carry to 4 on its switch, to 3 at level 1, to 36 at level 2, and back
pub links_of_5 : map (carries 2 2 5) (4 ∷ 3 ∷ 36 ∷ []) ++ map (λ (v : ℕ). carries 2 2 v 5) (4 ∷ 3 ∷ 36 ∷ []) ≡ 65 ∷ 52 ∷ 36 ∷ 65 ∷ 52 ∷ 36 ∷ []
unfolding over sum one has hops route same near far end port sub cell t
links_of_5 = refl

-- counted: for n = 4, k = 1, what the links of server 3 carry to 0 on its switch and to 16 at level 1, and its cable each way
pub links_of_3 : map (carries 4 1 3) (0 ∷ 16 ∷ []) ++ (sends 4 1 3 ∷ takes 4 1 3 ∷ []) ≡ 9 ∷ 16 ∷ 27 ∷ 27 ∷ []
unfolding over sum one has hops route same near far end port sub cell t
links_of_3 = refl

-- counted: for n = 2 and k = 1, 2 all links of all routes, t(k) times what a server's cable and links carry
pub links_of_all : map (all_links 2) (1 ∷ 2 ∷ []) ++ map (loads 2) (1 ∷ 2 ∷ []) ≡ 54 ∷ 6426 ∷ 9 ∷ 153 ∷ []
unfolding all_links loads cable load ways product g sum hops route same near far end port sub cell t
links_of_all = refl
