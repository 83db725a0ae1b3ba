-- What the words of the command line ask for.
use Rattle.std.specs.Prelude.{ℕ, ℤ, pos, negsuc, ◌^◌, ◌≤◌, List, [], ◌∷◌, Option, Some, None}
use Rattle.std.specs.Prelude.{bytes_eq, codes, nat_lt, ◌||◌, if◌then◌else◌, option_map, ⊤}
use Rattle.std.specs.Result.{result_ok}
use Rattle.oct_num.specs.Metres.{metres_of}
use Rattle.oct_num.specs.Sign.{has_minus}
use Rattle.oct_num.specs.Whole.{whole_of}
use Rattle.oct_key.specs.declared.point.Point.{Point}
use Rattle.oct_merge.specs.declared.rule.Rule.{Rule}
use Rattle.oct_merge.specs.declared.rule.Rule.TheVariants.{Greatest, Least, First}
use Rattle.oct_odds.specs.Odds.{Odds, odds, default_odds, first_bad_field}
use Rattle.oct_odds.specs.declared.model.OddsField.{OddsField}
use Rattle.oct_script.specs.Grammar.{number_of}
use Rattle.oct_script.specs.Names.{name_of}
use Rattle.oct_script.specs.Words.{Word}
use Rattle.oct_session.specs.Setup.{Setup}
use Rattle.oct_file_tasks.specs.declared.file_task.FileTask.{FileTask}
use Rattle.oct_file_tasks.specs.declared.file_task.FileTask.TheVariants.{Convert, Inspect, Frontier}
use Rattle.oct_file_tasks.specs.declared.file_task.FileTask.TheVariants.{Project, Vrml}
use Rattle.oct_tasks.specs.declared.task.Stretch.{Stretch}
use Rattle.oct_file_tasks.specs.declared.store_task.PairTask.{PairTask}
use Rattle.oct_file_tasks.specs.declared.store_task.PairTask.TheVariants.{Merge, Table}
use Rattle.oct_file_tasks.specs.declared.store_task.StoreTask.{StoreTask}
use Rattle.oct_tasks.specs.declared.task.Workload.{Workload}
use Rattle.oct_tasks.specs.Words.{value_of, are_options}

-- a task of the program: a session, the building of a map's file by a script, one over a file of at
-- most this many bytes, one over two files of the store, or the writing of a script that a seed
-- makes, of so many scans of so many points each, or of four lines about its session
pub data Task : Type 0 where
  Session : Setup → Task
  Build : Setup → Task
  OverFile : FileTask → ℕ → Task
  OverStore : StoreTask → Task
  Gen : ℕ → ℕ → ℕ → Task
  Drill : ℕ → ℕ → ℕ → Task

-- a number in a range, both ends included
abbrev pub within : ℕ → ℕ → Option ℤ → Option ℕ
within low high None = None
within low high (Some (negsuc n)) = None
within low high (Some (pos n)) = if nat_lt n low || nat_lt high n then None else Some n

-- the resolution that a word spells: a length in metres, from 0.0001 m to 100 m, in nanometres
abbrev pub resolution_of : Word → Option ℕ
resolution_of word = within 100000 100000000000 (result_ok (metres_of word))

-- the number in a range that a word spells: one to eighteen digits
abbrev pub count_of : ℕ → ℕ → Word → Option ℕ
count_of low high word = if has_minus word then None else within low high (whole_of word)

-- what the word after an option spells, or the default where the option isn't given
abbrev pub chosen : {A : Type 0} → (Word → Option A) → A → Option Word → Option A
chosen spelled default None = Some default
chosen spelled default (Some word) = spelled word

-- the thousandths of log-odds that an option of this name chooses: an optional minus and one to
-- seven digits
abbrev pub chosen_number : List Word → Word → ℤ → Option ℤ
chosen_number words name default = chosen number_of default (value_of name words)

-- these numbers, where they meet the conditions on a model
abbrev pub sound_odds : Odds → Option OddsField → Option Odds
sound_odds model None = Some model
sound_odds model (Some field) = None

-- the model of these five numbers, where all are numbers and meet the conditions on a model
abbrev pub odds_from : Option ℤ → Option ℤ → Option ℤ → Option ℤ → Option ℤ → Option Odds
odds_from (Some hit) (Some miss) (Some min) (Some max) (Some thr) =
    sound_odds (odds hit miss min max thr) (first_bad_field (odds hit miss min max thr))
odds_from _ _ _ _ _ = None

-- the model that the options choose
unfoldable pub chosen_model : List Word → Option Odds
chosen_model words = odds_from
    (chosen_number words (codes "--hit") default_odds.hit)
    (chosen_number words (codes "--miss") default_odds.miss)
    (chosen_number words (codes "--min") default_odds.min)
    (chosen_number words (codes "--max") default_odds.max)
    (chosen_number words (codes "--thr") default_odds.thr)

-- the number in a range that an option of this name chooses
abbrev pub chosen_count : List Word → Word → ℕ → ℕ → ℕ → Option ℕ
chosen_count words name default low high = chosen (count_of low high) default (value_of name words)

-- the most groups of the map that the options choose
unfoldable pub chosen_groups : List Word → Option ℕ
chosen_groups words = chosen_count words (codes "--max-groups") (2 ^ 24) 16 (2 ^ 26)

-- the most voxels that a scan may meet, as the options choose
unfoldable pub chosen_cells : List Word → Option ℕ
chosen_cells words = chosen_count words (codes "--max-cells") (2 ^ 26) 1 (2 ^ 27)

-- the most bytes of a script that the options choose
unfoldable pub chosen_bytes : List Word → Option ℕ
chosen_bytes words = chosen_count words (codes "--max-bytes") (2 ^ 40) 0 (2 ^ 40)

-- what a session is set up with, where all of it is there
abbrev pub setup_from : Option ℕ → Option Odds → Option ℕ → Option ℕ → Option ℕ → Option Setup
setup_from (Some res) (Some odds) (Some groups) (Some cells) (Some bytes) =
    Some (record {
      res = res;
      odds = odds;
      max_groups = groups;
      max_cells = cells;
      max_bytes = bytes;
    })
setup_from _ _ _ _ _ = None

-- what the session of these words is set up with: a resolution, and options after it
abbrev pub setup_asked : Word → List Word → Option Setup
setup_asked res options =
    setup_from (resolution_of res) (chosen_model options) (chosen_groups options)
    (chosen_cells options) (chosen_bytes options)

-- what the words after `session` or `build` choose: a resolution and options
abbrev pub options_asked : List Word → Option Setup
options_asked [] = None
options_asked (res ∷ options) = if are_options options then setup_asked res options else None

-- the most bytes of a file that one word spells
abbrev pub file_number : List Word → Option ℕ
file_number [] = None
file_number (word ∷ []) = count_of 0 (2 ^ 32) word
file_number (word ∷ other ∷ words) = None

-- the most bytes of a file that the words after a task's name choose: none, or `--max-bytes` and
-- a number
abbrev pub file_bytes : List Word → Option ℕ
file_bytes [] = Some (2 ^ 26)
file_bytes (name ∷ words) =
    if bytes_eq name (codes "--max-bytes") then file_number words else None

-- the point of these coordinates, where all are there
abbrev pub point_from : Option ℤ → Option ℤ → Option ℤ → Option Point
point_from (Some x) (Some y) (Some z) = Some (record { x = x; y = y; z = z })
point_from _ _ _ = None

-- the point that three words spell, each a length in metres
abbrev pub point_of : Word → Word → Word → Option Point
point_of x y z =
    point_from (result_ok (metres_of x)) (result_ok (metres_of y)) (result_ok (metres_of z))

-- two points and the most bytes of a file, where all are there
abbrev pub stretch_from : Option Point → Option Point → Option ℕ → Option Stretch
stretch_from (Some lo) (Some hi) (Some max_bytes) =
    Some (record { lo = lo; hi = hi; max_bytes = max_bytes })
stretch_from _ _ _ = None

-- what the words after `frontier` or `project` choose: two points, and the most bytes of the file
abbrev pub stretch_of : List Word → Option Stretch
stretch_of (a ∷ b ∷ c ∷ d ∷ e ∷ f ∷ words) =
    stretch_from (point_of a b c) (point_of d e f) (file_bytes words)
stretch_of _ = None

-- what is asked of the file between them
abbrev pub task_in : (Point → Point → FileTask) → Stretch → Task
task_in asks stretch = OverFile (asks stretch.lo stretch.hi) stretch.max_bytes

-- the rule that a word names
abbrev pub rule_of : Word → Option Rule
rule_of word =
    if bytes_eq word (codes "greatest") then Some Greatest
    else if bytes_eq word (codes "least") then Some Least
    else if bytes_eq word (codes "first") then Some First
    else None

-- a task over two files, where both names are there and what is asked of them
abbrev pub store_task_from : Option (List ℕ) → Option (List ℕ) → Option PairTask → Option StoreTask
store_task_from (Some first) (Some second) (Some asks) =
    Some (record { first = first; second = second; asks = asks })
store_task_from _ _ _ = None

-- a task over two files of these names, by what is asked of them
unfoldable pub store_task_of : Word → Word → Option PairTask → Option StoreTask
store_task_of first second asks = store_task_from (name_of first) (name_of second) asks

-- what the words after `merge` ask for: a rule and two names
abbrev pub merge_asked : List Word → Option StoreTask
merge_asked (rule ∷ first ∷ second ∷ []) =
    store_task_of first second (option_map Merge (rule_of rule))
merge_asked _ = None

-- a table between two points, where both are there
abbrev pub table_from : Option Point → Option Point → Option PairTask
table_from (Some lo) (Some hi) = Some (Table lo hi)
table_from _ _ = None

-- the table between two points that six words spell
abbrev pub table_between : List Word → Option PairTask
table_between (a ∷ b ∷ c ∷ d ∷ e ∷ f ∷ []) = table_from (point_of a b c) (point_of d e f)
table_between _ = None

-- what the words after `table` ask for: two names, and two points
abbrev pub table_asked : List Word → Option StoreTask
table_asked (first ∷ second ∷ points) = store_task_of first second (table_between points)
table_asked _ = None

-- a script of these numbers, where all are there
abbrev pub workload_from : Option ℕ → Option ℕ → Option ℕ → Option Workload
workload_from (Some seed) (Some scans) (Some points) =
    Some (record { seed = seed; scans = scans; points = points })
workload_from _ _ _ = None

-- the script that three words ask for: a seed of one to eighteen digits, at most 1,000 scans, and
-- at most 100,000 points in each
abbrev pub workload_of : List Word → Option Workload
workload_of (seed ∷ scans ∷ points ∷ []) =
    workload_from (count_of 0 (10 ^ 18) seed) (count_of 0 1000 scans) (count_of 0 100000 points)
workload_of _ = None

-- the writing of such a script
abbrev pub gen_by : Workload → Task
gen_by load = Gen load.seed load.scans load.points

-- the writing of the four lines about its session
abbrev pub drill_by : Workload → Task
drill_by load = Drill load.seed load.scans load.points

-- the task of a name and the words after it
abbrev pub task_by : Word → List Word → Option Task
task_by name words =
    if bytes_eq name (codes "session") then option_map Session (options_asked words)
    else if bytes_eq name (codes "build") then option_map Build (options_asked words)
    else if bytes_eq name (codes "convert")
    then option_map (OverFile Convert) (file_bytes words)
    else if bytes_eq name (codes "inspect")
    then option_map (OverFile Inspect) (file_bytes words)
    else if bytes_eq name (codes "frontier")
    then option_map (task_in Frontier) (stretch_of words)
    else if bytes_eq name (codes "project") then option_map (task_in Project) (stretch_of words)
    else if bytes_eq name (codes "vrml") then option_map (OverFile Vrml) (file_bytes words)
    else if bytes_eq name (codes "merge") then option_map OverStore (merge_asked words)
    else if bytes_eq name (codes "table") then option_map OverStore (table_asked words)
    else if bytes_eq name (codes "gen") then option_map gen_by (workload_of words)
    else if bytes_eq name (codes "drill") then option_map drill_by (workload_of words)
    else None

-- the task that the words ask for; words with another name have none
unfoldable pub task_of : List Word → Option Task
task_of [] = None
task_of (name ∷ words) = task_by name words

-- the numbers of a task are in their ranges: at most 2^32 bytes of a file, and at most 1,000 scans
-- of at most 100,000 points each
abbrev pub IsInRange : Task → Type 0
IsInRange (Session o) = ⊤
IsInRange (Build o) = ⊤
IsInRange (OverFile task max_bytes) = max_bytes ≤ 2 ^ 32
IsInRange (OverStore task) = ⊤
IsInRange (Gen seed scans points) = (scans ≤ 1000) × (points ≤ 100000)
IsInRange (Drill seed scans points) = (scans ≤ 1000) × (points ≤ 100000)
