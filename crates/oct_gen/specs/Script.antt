-- The script of a seed: its lines, each of the draws from an index on.
use Rattle.std.specs.Prelude.{ℕ, ◌+◌, ◌*◌, pos, ◌*ℤ◌, List, ◌++◌, codes}
use Rattle.std.specs.List.{flat_map, range_with_len}
use Rattle.std.specs.Fmt.{decimal, signed_decimal}
use Rattle.oct_num.specs.MetresText.{metres_text}
use Rattle.oct_gen.specs.Draws.{drawn_within}

-- a draw as a length of at most this many millimetres to either side, in metres
unfoldable pub length_text : ℕ → ℕ → ℕ → List ℕ
length_text reach seed index = metres_text (pos 1000000 *ℤ drawn_within reach seed index)

-- a point: x, y and z, in this order
unfoldable pub point_text : ℕ → ℕ → ℕ → List ℕ
point_text reach seed index =
    length_text reach seed index ++ codes " " ++ length_text reach seed (index + 1) ++ codes " "
    ++ length_text reach seed (index + 2)

-- the first line of a scan, of four draws: within 2 m, a turn about z, and a range of 8 m
unfoldable pub scan_line : ℕ → ℕ → List ℕ
scan_line seed index =
    codes "scan " ++ point_text 2000 seed index ++ codes " 1 0 0 "
    ++ signed_decimal (drawn_within 2 seed (index + 3)) ++ codes " 8\n"

-- the line of a point of a scan, of three draws: within 5 m
unfoldable pub point_line : ℕ → ℕ → List ℕ
point_line seed index = codes "p " ++ point_text 5000 seed index ++ codes "\n"

-- the lines of this many points
unfoldable pub points_text : ℕ → ℕ → ℕ → List ℕ
points_text seed index points =
    flat_map (λ k. point_line seed (index + 3 * k)) (range_with_len 0 points)

-- a scan of this many points
unfoldable pub scan_text : ℕ → ℕ → ℕ → List ℕ
scan_text seed index points =
    scan_line seed index ++ points_text seed (index + 4) points ++ codes "end\n"

-- this many scans, one after the other
unfoldable pub scans_text : ℕ → ℕ → ℕ → List ℕ
scans_text seed scans points =
    flat_map (λ k. scan_text seed ((4 + 3 * points) * k) points) (range_with_len 0 scans)

-- the first line of a script: a comment that says what made it
unfoldable pub header_line : ℕ → ℕ → ℕ → List ℕ
header_line seed scans points =
    codes "# octomap gen " ++ decimal seed ++ codes " " ++ decimal scans ++ codes " "
    ++ decimal points ++ codes "\n"

-- the whole script
unfoldable pub script_of : ℕ → ℕ → ℕ → List ℕ
script_of seed scans points =
    header_line seed scans points ++ scans_text seed scans points ++ codes "quit\n"
