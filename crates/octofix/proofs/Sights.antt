-- What C passes for a scan, read in steps.
use Rattle.std.proofs.Common.{◌≡◌, ℤ, pos, negsuc, nat_eq, Bool, true, false, ◌&&◌, List, []}
use Rattle.std.proofs.Common.{suc, arith, SFits, w64, to_z, of_z, to_z-of_z, refl, sym, ap, ◌∙◌}
use Rattle.std.proofs.Common.{map, inl, inr, Option, Ok, Err}
use Rattle.std.specs.Prelude.{Result, IsErrAnd, if◌then◌else◌, unsigned_abs}
use Rattle.std.proofs.lemmas.Bool.{eqb-true}
use Rattle.oct_pose.specs.Reach.{IsZero}
use Rattle.oct_scan.specs.Beam.{Sighting, sighting_of}
use Rattle.oct_scan.specs.declared.scan.Scan.{Scan}
use Rattle.oct_scan.specs.declared.scan.ScanOdds.{ScanOdds}
use Rattle.oct_map.specs.declared.fault.MapFault.TheVariants.{Memory}
use Rattle.oct_key.specs.declared.point.Point.{Point}
use Rattle.octofix.specs.Points.{point_of}
use Rattle.octofix.specs.Scans.{IsRead}
use Rattle.octofix.specs.Sightings.{and_then, is_in_reach, is_zero, points_from, range_from}
use Rattle.octofix.specs.Sightings.{sighting_from, trust_from}
use Rattle.octofix.specs.declared.refusal.Refusal.{Refusal}
use Rattle.octofix.specs.declared.refusal.Refusal.TheVariants as refusal
use Rattle.octofix.specs.declared.types.PointNm.{PointNm}
use Rattle.octofix.specs.declared.types.PoseNm.{PoseNm}
use Rattle.octofix.specs.declared.types.ScanOptions.{ScanOptions}

-- what was seen, with these log-odds
abbrev pub seen_with : PoseNm → List PointNm → Option ℤ → Option ScanOdds → Sighting
seen_with pose points range trust = record {
  origin = point_of pose.at;
  w = pose.w;
  x = pose.x;
  y = pose.y;
  z = pose.z;
  points = map point_of points;
  range = range;
  odds = trust;
}

-- what is left to be read behind the range
abbrev pub behind_range : PoseNm → List PointNm → ScanOptions → Option ℤ → Result Sighting Refusal
behind_range pose points options range =
    if is_zero pose then Err refusal.ZeroQuaternion
    else and_then (trust_from options.hit options.miss)
    (λ trust. Ok (seen_with pose points range trust))

-- the place of the sensor, the points and the range are read
pub read_range : (pose : PoseNm) (points : List PointNm) (options : ScanOptions)
    (range : Option ℤ) → is_in_reach (point_of pose.at) ≡ true
    → points_from points ≡ Ok (map point_of points) → range_from options.range ≡ Ok range
    → sighting_from pose points options ≡ behind_range pose points options range
read_range pose points options range near all within = rw near (rw all (rw within refl))

-- the same by what the code has
pub read_begun : (pose : PoseNm) (points : List PointNm) (options : ScanOptions)
    (range : Option ℤ) (origin : Point) (near : Bool) (read : Result (Option ℤ) Refusal)
    → origin ≡ point_of pose.at → near ≡ is_in_reach origin → near ≡ true
    → points_from points ≡ Ok (map point_of points)
    → read ≡ range_from (to_z w64 (of_z w64 options.range)) → read ≡ Ok range
    → SFits w64 options.range
    → sighting_from pose points options ≡ behind_range pose points options range
read_begun pose points options range origin near read at reached is all from right fits =
    read_range pose points options range
    (sym (ap is_in_reach at) ∙ sym reached ∙ is) all
    (sym (ap range_from (to_z-of_z fits)) ∙ sym from ∙ right)

-- a quaternion that is 0
all_zero : (w x y z : ℤ) → IsZero w x y z
    → ((nat_eq (unsigned_abs w) 0 && nat_eq (unsigned_abs x) 0)
    && (nat_eq (unsigned_abs y) 0 && nat_eq (unsigned_abs z) 0)) ≡ true
all_zero w x y z zero = rw zero.0 (rw zero.1 (rw zero.2 (rw zero.3 refl)))

pub zero_pose : (pose : PoseNm) → IsZero pose.w pose.x pose.y pose.z → is_zero pose ≡ true
zero_pose pose zero = all_zero pose.w pose.x pose.y pose.z zero

-- a number without magnitude is 0
no_magnitude : (n : ℤ) → nat_eq (unsigned_abs n) 0 ≡ true → n ≡ pos 0
no_magnitude (pos n) is = ap pos (eqb-true n 0 is)
no_magnitude (negsuc n) is =
    let none : suc n ≡ 0 = eqb-true (suc n) 0 is in absurd (omega arith)

-- four truths
all_four : (a b c d : Bool) → ((a && b) && (c && d)) ≡ true
    → (a ≡ true) × (b ≡ true) × (c ≡ true) × (d ≡ true)
all_four true true true true is = (refl, refl, refl, refl)
all_four false b c d is = cc
all_four true false c d is = cc
all_four true true false d is = cc
all_four true true true false is = cc

-- a test that doesn't hold
not_so : (t : Bool) → (t ≡ true → ⊥) → t ≡ false
not_so true never = absurd (never refl)
not_so false never = refl

-- a quaternion that isn't
pub turning_pose : (pose : PoseNm) → (IsZero pose.w pose.x pose.y pose.z → ⊥)
    → is_zero pose ≡ false
turning_pose pose turns = not_so (is_zero pose) (λ is.
    let each = all_four (nat_eq (unsigned_abs pose.w) 0) (nat_eq (unsigned_abs pose.x) 0)
    (nat_eq (unsigned_abs pose.y) 0) (nat_eq (unsigned_abs pose.z) 0) is in
    turns (
      no_magnitude pose.w each.0,
      no_magnitude pose.x each.1,
      no_magnitude pose.y each.2,
      no_magnitude pose.z each.3,
    ))

-- a quaternion that is 0 is refused
pub read_zero : (pose : PoseNm) (points : List PointNm) (options : ScanOptions)
    (range : Option ℤ) → is_zero pose ≡ true
    → behind_range pose points options range ≡ Err refusal.ZeroQuaternion
read_zero pose points options range zero = rw zero refl

-- and then log-odds out of their range
pub read_mistrust : (pose : PoseNm) (points : List PointNm) (options : ScanOptions)
    (range : Option ℤ) (refused : Refusal) → is_zero pose ≡ false
    → trust_from options.hit options.miss ≡ Err refused
    → behind_range pose points options range ≡ Err refused
read_mistrust pose points options range refused turns wrong = rw turns (rw wrong refl)

-- all is read
pub read_all : (pose : PoseNm) (points : List PointNm) (options : ScanOptions)
    (range : Option ℤ) (trust : Option ScanOdds) → is_zero pose ≡ false
    → trust_from options.hit options.miss ≡ Ok trust
    → behind_range pose points options range ≡ Ok (seen_with pose points range trust)
read_all pose points options range trust turns right = rw turns (rw right refl)

-- a call that is refused for this reason
pub read_refused : (seen : Result Sighting Refusal) (points : List PointNm)
    (result : Result Scan Refusal) (why : Refusal) → IsErrAnd result (λ e. e ≡ why)
    → seen ≡ Err why → IsRead seen points result
read_refused seen points (Ok scan) why is at = absurd is
read_refused seen points (Err refused) why is at = inl (at ∙ ap Err (sym is))

-- a call for which memory ran out
pub read_short : (seen : Result Sighting Refusal) (points : List PointNm)
    (result : Result Scan Refusal) (s : Sighting) → IsErrAnd result (λ e. e ≡ refusal.Map Memory)
    → (points ≡ [] → ⊥) → seen ≡ Ok s → IsRead seen points result
read_short seen points (Ok scan) s is some at = absurd is
read_short seen points (Err refused) s is some at = inr (is, some, s, at)

-- what was seen is that of the scan
pub seen_is : (pose : PoseNm) (points : List PointNm) (scan : Scan)
    → scan.pose.t ≡ point_of pose.at → scan.pose.w ≡ pose.w → scan.pose.x ≡ pose.x
    → scan.pose.y ≡ pose.y → scan.pose.z ≡ pose.z → scan.points ≡ map point_of points
    → seen_with pose points scan.range scan.odds ≡ sighting_of scan
seen_is pose points scan at w x y z all = cc
