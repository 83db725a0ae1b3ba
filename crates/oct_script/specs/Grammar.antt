-- The grammar of scripts: the forms that a line may have.
use Rattle.std.specs.Prelude.{ℕ, ℤ, pos, neg_ℤ, int_le, int_lt, unsigned_abs, nat_lt, nat_le, Bool}
use Rattle.std.specs.Prelude.{◌&&◌, true, false, if◌then◌else◌, List, [], ◌∷◌, ◌++◌, length, map}
use Rattle.std.specs.Prelude.{codes, bytes_eq, Option, Some, None, option_map, option_and_then}
use Rattle.std.specs.Result.{result_ok}
use Rattle.oct_num.specs.Metres.{metres_of}
use Rattle.oct_num.specs.Sign.{without_minus}
use Rattle.oct_num.specs.Whole.{natural_of, whole_of}
use Rattle.oct_key.specs.declared.point.Point.{Point}
use Rattle.oct_script.specs.Names.{name_of}
use Rattle.oct_script.specs.Words.{Word}
use Rattle.oct_script.specs.declared.command.Edit.{Edit}
use Rattle.oct_script.specs.declared.command.Edit.TheVariants.{Hit, Miss, Add, Set, Forget}
use Rattle.oct_script.specs.declared.command.ScanHead.{ScanHead}
use Rattle.oct_script.specs.declared.command.ScanOdds.{ScanOdds}
use Rattle.oct_script.specs.declared.command.Command.{Command}
use Rattle.oct_script.specs.declared.command.Command.TheVariants as command

-- what may stand in a line, from a place on
pub data Form : Type 0 where
  -- no more words: the line is this command
  Ends : Command → Form
  -- this word, and what may stand after it
  Exactly : Word → Form → Form
  -- an X, a Y or a Z, and what may stand after it, by the length that it spells
  Metres : (ℤ → Form) → Form
  -- an N
  Number : (ℤ → Form) → Form
  -- a D
  Depth : (ℕ → Form) → Form
  -- a Q
  Component : (ℤ → Form) → Form
  -- a RANGE
  Range : (Option ℤ → Form) → Form
  -- a HIT
  HitOdds : (ℤ → Form) → Form
  -- a MISS
  MissOdds : (ℤ → Form) → Form
  -- a NAME
  FileName : (Word → Form) → Form

-- X, Y or Z: a length in metres
abbrev pub length_of : Word → Option ℤ
length_of word = result_ok (metres_of word)

-- a number of a magnitude of at most a million
abbrev pub if_small : ℤ → Option ℤ
if_small n = if nat_le (unsigned_abs n) 1000000 then Some n else None

-- an optional minus and one to seven digits
abbrev pub short_whole : Word → Option ℤ
short_whole word = if nat_lt 7 (length (without_minus word)) then None else whole_of word

-- N: an optional minus and one to seven digits, for a number of a magnitude of at most a million
abbrev pub number_of : Word → Option ℤ
number_of word = option_and_then if_small (short_whole word)

-- D: one to seven digits
abbrev pub depth_of : Word → Option ℕ
depth_of word = if nat_lt 7 (length word) then None else natural_of word

-- a number of sixteen bits, one of them for its sign
abbrev pub if_sixteen_bits : ℤ → Option ℤ
if_sixteen_bits n = if int_le (neg_ℤ (pos 32768)) n && int_le n (pos 32767) then Some n else None

-- Q: an optional minus and one to seven digits, for a number of sixteen bits
abbrev pub component_of : Word → Option ℤ
component_of word = option_and_then if_sixteen_bits (short_whole word)

-- a length that isn't below 0
abbrev pub if_not_negative : ℤ → Option (Option ℤ)
if_not_negative n = if int_le (pos 0) n then Some (Some n) else None

-- RANGE: `all`, for none, or a length that isn't below 0
abbrev pub range_of : Word → Option (Option ℤ)
range_of word =
    if bytes_eq word (codes "all") then Some None
    else option_and_then if_not_negative (length_of word)

-- a number above 0
abbrev pub if_positive : ℤ → Option ℤ
if_positive n = if int_lt (pos 0) n then Some n else None

-- a number below 0
abbrev pub if_negative : ℤ → Option ℤ
if_negative n = if int_lt n (pos 0) then Some n else None

-- HIT: an N above 0
abbrev pub hit_of : Word → Option ℤ
hit_of word = option_and_then if_positive (number_of word)

-- MISS: an N below 0
abbrev pub miss_of : Word → Option ℤ
miss_of word = option_and_then if_negative (number_of word)

-- what may stand after a word, or none where the word itself can't stand there
abbrev pub behind : Word → Form → Option Form
behind word (Ends command) = None
behind word (Exactly literal form) = if bytes_eq word literal then Some form else None
behind word (Metres form) = option_map form (length_of word)
behind word (Number form) = option_map form (number_of word)
behind word (Depth form) = option_map form (depth_of word)
behind word (Component form) = option_map form (component_of word)
behind word (Range form) = option_map form (range_of word)
behind word (HitOdds form) = option_map form (hit_of word)
behind word (MissOdds form) = option_map form (miss_of word)
behind word (FileName form) = option_map form (name_of word)

-- X Y Z
abbrev pub point : (Point → Form) → Form
point form = Metres (λ x. Metres (λ y. Metres (λ z. form (record { x = x; y = y; z = z }))))

-- X Y Z X Y Z
abbrev pub two_points : (Point → Point → Form) → Form
two_points form = point (λ p. point (λ q. form p q))

-- `lazy`, and no more words
abbrev pub lazy : Command → Form
lazy command = Exactly (codes "lazy") (Ends command)

-- X Y Z Q Q Q Q RANGE, for the head of a scan that may have log-odds of its own and may be lazy
abbrev pub head : ((Option ScanOdds → Bool → ScanHead) → Form) → Form
head form = point (λ t. Component (λ w. Component (λ x. Component (λ y. Component (λ z.
    Range (λ range. form (λ odds lazy. record {
      t = t;
      w = w;
      x = x;
      y = y;
      z = z;
      range = range;
      odds = odds;
      lazy = lazy;
    })))))))

-- HIT MISS
abbrev pub own_odds : (Option ScanOdds → Form) → Form
own_odds form =
    HitOdds (λ hit. MissOdds (λ miss. form (Some (record { hit = hit; miss = miss }))))

-- no more words
abbrev pub alone : Command → List Form
alone command = Ends command ∷ []

-- X Y Z [lazy]; a word that may be absent is in one form of two
abbrev pub edit : Edit → List Form
edit e =
    point (λ p. Ends (command.Edit p e false))
    ∷ point (λ p. lazy (command.Edit p e true))
    ∷ []

-- X Y Z N [lazy]
abbrev pub number_edit : (ℤ → Edit) → List Form
number_edit e =
    point (λ p. Number (λ n. Ends (command.Edit p (e n) false)))
    ∷ point (λ p. Number (λ n. lazy (command.Edit p (e n) true)))
    ∷ []

-- an edit that is one word, for each voxel of a box
abbrev pub word_on_box : Word → Edit → Form
word_on_box word e = two_points (λ lo hi. Exactly word (Ends (command.Box lo hi e)))

-- an edit that is a word and an N, for each voxel of a box
abbrev pub number_on_box : Word → (ℤ → Edit) → Form
number_on_box word e =
    two_points (λ lo hi. Exactly word (Number (λ n. Ends (command.Box lo hi (e n)))))

-- X Y Z X Y Z and an edit
abbrev pub box : List Form
box =
    word_on_box (codes "hit") Hit
    ∷ word_on_box (codes "miss") Miss
    ∷ word_on_box (codes "forget") Forget
    ∷ number_on_box (codes "add") Add
    ∷ number_on_box (codes "set") Set
    ∷ []

-- X Y Z D
abbrev pub query : List Form
query = point (λ p. Depth (λ depth. Ends (command.Get p depth))) ∷ []

-- X Y Z X Y Z D
abbrev pub listing : List Form
listing = two_points (λ lo hi. Depth (λ depth. Ends (command.List lo hi depth))) ∷ []

-- X Y Z X Y Z
abbrev pub limit : List Form
limit = two_points (λ lo hi. Ends (command.Limit lo hi)) ∷ []

-- X Y Z X Y Z [ignore]
abbrev pub cast : List Form
cast =
    two_points (λ origin end. Ends (command.Cast origin end false))
    ∷ two_points (λ origin end. Exactly (codes "ignore") (Ends (command.Cast origin end true)))
    ∷ []

-- X Y Z Q Q Q Q RANGE [HIT MISS] [lazy]
abbrev pub scan : List Form
scan =
    head (λ of_scan. Ends (command.Scan (of_scan None false)))
    ∷ head (λ of_scan. lazy (command.Scan (of_scan None true)))
    ∷ head (λ of_scan. own_odds (λ odds. Ends (command.Scan (of_scan odds false))))
    ∷ head (λ of_scan. own_odds (λ odds. lazy (command.Scan (of_scan odds true))))
    ∷ []

-- NAME
abbrev pub file : (Word → Command) → List Form
file command = FileName (λ name. Ends (command name)) ∷ []

-- X Y Z, of a point that a scan saw
abbrev pub beam : List Form
beam = point (λ p. Ends (command.Beam p)) ∷ []

-- the first word of a line, and the forms of what may stand after it
pub record Row : Type 0 where
  pub word : Word
  pub forms : List Form

-- a row of the grammar
abbrev pub row : Word → List Form → Row
row word forms = record { word = word; forms = forms }

-- the lines outside the block of a scan, by their first words
abbrev pub grammar : List Row
grammar =
    row (codes "get") query
    ∷ row (codes "hit") (edit Hit)
    ∷ row (codes "miss") (edit Miss)
    ∷ row (codes "add") (number_edit Add)
    ∷ row (codes "set") (number_edit Set)
    ∷ row (codes "forget") (edit Forget)
    ∷ row (codes "counts") (alone command.Counts)
    ∷ row (codes "refresh") (alone command.Refresh)
    ∷ row (codes "prune") (alone command.Prune)
    ∷ row (codes "clear") (alone command.Clear)
    ∷ row (codes "maxlik") (alone command.MaxLik)
    ∷ row (codes "cast") cast
    ∷ row (codes "box") box
    ∷ row (codes "list") listing
    ∷ row (codes "quit") (alone command.Quit)
    ∷ row (codes "scan") scan
    ∷ row (codes "save") (file command.Save)
    ∷ row (codes "load") (file command.Load)
    ∷ row (codes "snapshot") (file command.Snapshot)
    ∷ row (codes "restore") (file command.Restore)
    ∷ row (codes "track") (alone command.Track)
    ∷ row (codes "untrack") (alone command.Untrack)
    ∷ row (codes "changes") (alone command.Changes)
    ∷ row (codes "limit") limit
    ∷ row (codes "nolimit") (alone command.NoLimit)
    ∷ []

-- the lines inside the block of a scan, by their first words
abbrev pub block_grammar : List Row
block_grammar = row (codes "p") beam ∷ row (codes "end") (alone command.End) ∷ []

-- the rows of lines inside the block of a scan, or outside
abbrev pub rows_of : Bool → List Row
rows_of inside = if inside then block_grammar else grammar

-- the forms that whole lines of these rows may have
abbrev pub forms_in : List Row → List Form
forms_in [] = []
forms_in (first ∷ rows) = map (Exactly first.word) first.forms ++ forms_in rows

-- the forms of a line inside the block of a scan, or outside
abbrev pub forms_of : Bool → List Form
forms_of inside = forms_in (rows_of inside)
