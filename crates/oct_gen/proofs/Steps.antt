-- What is to come is the next line and what comes after it.
use Rattle.std.proofs.Common.{◌≡◌, ℕ, suc, ◌+◌, ◌-◌, ◌*◌, ◌<◌, List, ◌++◌, length, refl, sym, ap}
use Rattle.std.proofs.Common.{◌∙◌, arith, append_assoc}
use Rattle.std.specs.Prelude.{codes}
use Rattle.oct_gen.specs.Draws.{state_after}
use Rattle.oct_gen.specs.Script.{header_line, scan_line, point_line, points_text, scan_text}
use Rattle.oct_gen.specs.Script.{scans_text, script_of}
use Rattle.oct_gen.specs.Lines.{scans_to_quit, text_from}
use Rattle.oct_gen.specs.declared.lines.Stage.TheVariants.{Header, Scans, Points, Over}
use Rattle.oct_gen.proofs.Shifts.{states_join, points_shift, points_first, scans_first}

-- the first line
header_step_at : (s scans points : ℕ) → text_from Header s scans points
    ≡ header_line s scans points ++ text_from Scans s scans points
unfolding text_from script_of scans_to_quit
header_step_at s scans points = append_assoc (header_line s scans points)
    (scans_text s scans points) (codes "quit\n")

pub header_step : (s seed scans points : ℕ) (line : List ℕ) → seed ≡ s
    → line ≡ header_line seed scans points
    → text_from Header s scans points ≡ line ++ text_from Scans s scans points
header_step s seed scans points line same is = rw (is, same) (header_step_at s scans points)

-- the last line
pub quit_step : (s scans points : ℕ) (line : List ℕ) → scans ≡ 0 → line ≡ codes "quit\n"
    → text_from Scans s scans points ≡ line ++ text_from Over s scans points
unfolding text_from scans_to_quit scans_text
quit_step s scans points line none is = rw (none, is) refl

regrouped : (line points end more quit : List ℕ) → (((line ++ points) ++ end) ++ more) ++ quit
    ≡ line ++ (points ++ (end ++ (more ++ quit)))
regrouped line points end more quit =
    append_assoc ((line ++ points) ++ end) more quit
    ∙ append_assoc (line ++ points) end (more ++ quit)
    ∙ append_assoc line points (end ++ (more ++ quit))

scan_parts : (s points : ℕ) → scan_text s 0 points
    ≡ (scan_line s 0 ++ points_text (state_after s 4) 0 points) ++ codes "end\n"
unfolding scan_text
scan_parts s points = ap (λ t. (scan_line s 0 ++ t) ++ codes "end\n")
    (sym (points_shift 4 0 s points))

-- the first line of a scan
scan_step_at : (s scans points : ℕ) → text_from Scans s (suc scans) points
    ≡ scan_line s 0 ++ text_from (Points points) (state_after s 4) scans points
unfolding text_from scans_to_quit
scan_step_at s scans points =
    ap (λ t. t ++ codes "quit\n") (scans_first s scans points
    ∙ ap (λ t. t ++ scans_text (state_after s (4 + 3 * points)) scans points) (scan_parts s points)
    ∙ ap (λ state. ((scan_line s 0 ++ points_text (state_after s 4) 0 points) ++ codes "end\n")
    ++ scans_text state scans points) (sym (states_join 4 (3 * points) s)))
    ∙ regrouped (scan_line s 0) (points_text (state_after s 4) 0 points) (codes "end\n")
    (scans_text (state_after (state_after s 4) (3 * points)) scans points) (codes "quit\n")

pub scan_step : (s s4 scans points : ℕ) (line : List ℕ) → 0 < scans → line ≡ scan_line s 0
    → s4 ≡ state_after s 4
    → text_from Scans s scans points ≡ line ++ text_from (Points points) s4 (scans - 1) points
scan_step s s4 scans points line some is later =
    let more : scans ≡ suc (scans - 1) = omega (arith, some) in
    rw (is, later)
    (ap (λ (n : ℕ). text_from Scans s n points) more ∙ scan_step_at s (scans - 1) points)

-- the line of a point
point_step_at : (s left scans points : ℕ) → text_from (Points (suc left)) s scans points
    ≡ point_line s 0 ++ text_from (Points left) (state_after s 3) scans points
unfolding text_from
point_step_at s left scans points =
    let steps : 3 * suc left ≡ 3 + 3 * left = omega arith in
    let state : state_after s (3 * suc left) ≡ state_after (state_after s 3) (3 * left) =
    ap (state_after s) steps ∙ sym (states_join 3 (3 * left) s) in
    ap (λ t. t ++ (codes "end\n" ++ scans_to_quit (state_after s (3 * suc left)) scans points))
    (points_first s left)
    ∙ append_assoc (point_line s 0) (points_text (state_after s 3) 0 left)
    (codes "end\n" ++ scans_to_quit (state_after s (3 * suc left)) scans points)
    ∙ ap (λ (at : ℕ). point_line s 0
    ++ (points_text (state_after s 3) 0 left
    ++ (codes "end\n" ++ scans_to_quit at scans points))) state

pub point_step : (s s3 left scans points : ℕ) (line : List ℕ) → 0 < left → line ≡ point_line s 0
    → s3 ≡ state_after s 3
    → text_from (Points left) s scans points ≡ line ++ text_from (Points (left - 1)) s3 scans points
point_step s s3 left scans points line some is later =
    let more : left ≡ suc (left - 1) = omega (arith, some) in
    rw (is, later)
    (ap (λ (n : ℕ). text_from (Points n) s scans points) more
    ∙ point_step_at s (left - 1) scans points)

-- the last line of a scan
pub end_step : (s left scans points : ℕ) (line : List ℕ) → left ≡ 0 → line ≡ codes "end\n"
    → text_from (Points left) s scans points ≡ line ++ text_from Scans s scans points
unfolding text_from points_text
end_step s left scans points line none is = rw (none, is) refl

-- ---- no line is empty

pub header_some : (s scans points : ℕ) (line : List ℕ) → line ≡ header_line s scans points
    → 0 < length line
unfolding header_line
header_some s scans points line is = rw is (omega arith)

pub scan_some : (s : ℕ) (line : List ℕ) → line ≡ scan_line s 0 → 0 < length line
unfolding scan_line
scan_some s line is = rw is (omega arith)

pub point_some : (s : ℕ) (line : List ℕ) → line ≡ point_line s 0 → 0 < length line
unfolding point_line
point_some s line is = rw is (omega arith)
