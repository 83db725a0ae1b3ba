-- A walk in 64 bits: what it keeps of its axes, and the voxels that it has still to give.
use Rattle.std.specs.Prelude.{◌≡◌, ℕ, ◌+◌, ◌-◌, ◌/◌, ◌^◌, ◌<◌, ◌≤◌, Bool, true, false}
use Rattle.std.specs.Prelude.{◌*◌, ◌&&◌, nat_le, if◌then◌else◌, List}
use Rattle.oct_key.specs.Voxel.{Voxel}
use Rattle.oct_key.specs.Morton.{gathered}
use Rattle.oct_ray.specs.declared.track.Track.{Track}
use Rattle.oct_ray.specs.declared.near.NearAxis.{NearAxis}
use Rattle.oct_ray.specs.declared.near.NearAxes.{NearAxes}
use Rattle.oct_ray.specs.declared.near.NearWalk.TheInside.{Inside}
use Rattle.oct_ray.specs.Placed.{after_steps}
use Rattle.oct_ray.specs.Track.{AreTracks, keys_left}

-- 1 where it is true
abbrev pub bit : Bool → ℕ
bit now = if now then 1 else 0

-- two places lie so near one another that 63 bits tell how much
abbrev pub AreClose : ℕ → ℕ → Type 0
AreClose first second = (first - second < 2 ^ 63) × (second - first < 2 ^ 63)

-- the numbers that a near walk keeps of three tracks fit 63 bits
pub record AreSmall (x y z : Track) : Type 0 where
  pub x_pace : x.pace < 2 ^ 63
  pub y_pace : y.pace < 2 ^ 63
  pub z_pace : z.pace < 2 ^ 63
  pub y_after_x : AreClose x.beside_next y.beside_third
  pub z_after_x : AreClose x.beside_third z.beside_next
  pub z_after_y : AreClose y.beside_next z.beside_third

-- the order tells how much later the second place comes than the first, above 2 ^ 63, and fits 64
-- bits
pub record IsOrder (order first second : ℕ) : Type 0 where
  pub some : 0 < order
  pub below : order < 2 ^ 64
  pub later : order + first ≡ 2 ^ 63 + second

-- what a near walk keeps of a track, whose numbers have their lowest bit there
abbrev pub axis_of_track : ℕ → Track → NearAxis
axis_of_track unit t = record {
  key = record { number = t.key; unit = unit; rises = t.rises };
  pace = t.pace;
}

-- an axis takes so many crossings, and stays on the map
pub record StaysOnMap (now : ℕ) (a : NearAxis) : Type 0 where
  pub up : a.key.rises ≡ true → a.key.number + now < 65536
  pub down : a.key.rises ≡ false → now ≤ a.key.number

-- an axis after so many crossings
abbrev pub after_pass : ℕ → NearAxis → NearAxis
after_pass now a = record { key = after_steps now a.key; pace = a.pace }

-- these are 1 where x, y and z cross next
pub record AreNow (n : NearAxes) (i j k : ℕ) : Type 0 where
  pub x : i ≡ bit (nat_le (2 ^ 63) n.y_after_x && nat_le (2 ^ 63) n.z_after_x)
  pub y : j ≡ bit (nat_le (2 ^ 63) n.z_after_y && nat_le n.y_after_x (2 ^ 63))
  pub z : k ≡ bit (nat_le n.z_after_x (2 ^ 63) && nat_le n.z_after_y (2 ^ 63))

-- all three stay on the map
pub record AllStay (n : NearAxes) (i j k : ℕ) : Type 0 where
  pub x : StaysOnMap i n.x
  pub y : StaysOnMap j n.y
  pub z : StaysOnMap k n.z

-- the orders have room for a step
pub record HaveRoom (n : NearAxes) : Type 0 where
  pub x_pace : n.x.pace < 2 ^ 63
  pub y_pace : n.y.pace < 2 ^ 63
  pub z_pace : n.z.pace < 2 ^ 63
  pub y_after_x : 0 < n.y_after_x
  pub z_after_x : 0 < n.z_after_x
  pub z_after_y : 0 < n.z_after_y

-- three axes can take the crossings that come next
pub record CanCross (n : NearAxes) : Type 0 where
  pub stay : (i j k : ℕ) → AreNow n i j k → AllStay n i j k
  pub room : HaveRoom n

-- three axes after a step in which these say which of them cross
pub record IsStep (n m : NearAxes) (i j k : ℕ) : Type 0 where
  pub x : m.x ≡ after_pass i n.x
  pub y : m.y ≡ after_pass j n.y
  pub z : m.z ≡ after_pass k n.z
  pub some_y_x : 0 < m.y_after_x
  pub some_z_x : 0 < m.z_after_x
  pub some_z_y : 0 < m.z_after_y
  pub below_y_x : m.y_after_x < 2 ^ 64
  pub below_z_x : m.z_after_x < 2 ^ 64
  pub below_z_y : m.z_after_y < 2 ^ 64
  pub y_after_x : m.y_after_x + i * n.y.pace ≡ n.y_after_x + j * n.x.pace
  pub z_after_x : m.z_after_x + i * n.z.pace ≡ n.z_after_x + k * n.x.pace
  pub z_after_y : m.z_after_y + j * n.z.pace ≡ n.z_after_y + k * n.y.pace

-- three axes have taken the crossings that came next
pub record HasCrossed (n m : NearAxes) : Type 0 where
  pub x_now : ℕ
  pub y_now : ℕ
  pub z_now : ℕ
  pub now : AreNow n x_now y_now z_now
  pub step : IsStep n m x_now y_now z_now

-- the track of an axis that goes to the voxels of this number, with these crossings
abbrev pub track_to : ℕ → NearAxis → ℕ → ℕ → Track
track_to end a next third = record {
  key = a.key.number;
  rises = a.key.rises;
  crossings = if a.key.rises then end - a.key.number else a.key.number - end;
  beside_next = next;
  beside_third = third;
  pace = a.pace;
}

-- the tracks of a near walk, with crossings that come after one another as its orders say
abbrev pub track_x : Inside → Track
track_x n = track_to (gathered 16 n.last) n.axes.x (2 ^ 63) (2 ^ 63)

abbrev pub track_y : Inside → Track
track_y n = track_to (gathered 16 (n.last / 2)) n.axes.y (2 ^ 63) n.axes.y_after_x

abbrev pub track_z : Inside → Track
track_z n = track_to (gathered 16 (n.last / 4)) n.axes.z n.axes.z_after_x n.axes.z_after_y

-- the voxels that a near walk has still to give
abbrev pub near_keys : Inside → List Voxel
near_keys n = keys_left (track_x n) (track_y n) (track_z n)

-- the axis of a track that goes to the voxels of this number, with its lowest bit there
pub record IsAxisTo (unit end : ℕ) (a : NearAxis) (t : Track) : Type 0 where
  pub same : a ≡ axis_of_track unit t
  pub small : t.pace < 2 ^ 63
  pub rising : t.rises ≡ true → t.key + t.crossings ≡ end
  pub falling : t.rises ≡ false → end + t.crossings ≡ t.key

-- a near walk is that of three tracks of one walk
pub record IsNear (n : Inside) : Type 0 where
  pub track_a : Track
  pub track_b : Track
  pub track_c : Track
  pub tracks : AreTracks track_a track_b track_c
  pub axis_a : IsAxisTo 1 (gathered 16 n.last) n.axes.x track_a
  pub axis_b : IsAxisTo 2 (gathered 16 (n.last / 2)) n.axes.y track_b
  pub axis_c : IsAxisTo 4 (gathered 16 (n.last / 4)) n.axes.z track_c
  pub y_after_x : IsOrder n.axes.y_after_x track_a.beside_next track_b.beside_third
  pub z_after_x : IsOrder n.axes.z_after_x track_a.beside_third track_c.beside_next
  pub z_after_y : IsOrder n.axes.z_after_y track_b.beside_next track_c.beside_third
  pub last : n.last < 2 ^ 48
