-- One map by many builds, each of a region, whose files or maps are merged.
use Rattle.std.specs.Prelude.{◌≡◌, ◌≤◌, ◌^◌, ℕ, List, [], ◌∷◌, ◌++◌, length, All, Option, Some}
use Rattle.std.specs.Prelude.{true}
use Rattle.oct_io.specs.Answer.{Answer}
use Rattle.oct_io.specs.Files.{Files}
use Rattle.oct_io.specs.Loaded.{loaded_of}
use Rattle.oct_key.specs.Boxes.{Window}
use Rattle.oct_key.specs.Values.{Values, SameValues}
use Rattle.oct_map.specs.Merges.{merged_values}
use Rattle.oct_merge.specs.declared.rule.Rule.{Rule}
use Rattle.oct_script.specs.Lines.{is_in_line, ended, line_of}
use Rattle.oct_session.specs.Building.{build, last_state}
use Rattle.oct_session.specs.History.{State}
use Rattle.oct_session.specs.Session.{lines_of}
use Rattle.oct_session.specs.Setup.{Setup}
use Rattle.oct_file_tasks.specs.OverStore.{found_reply}
use Rattle.oct_file_tasks.specs.TwoFiles.{map_in, joined}
use Rattle.oct_file_tasks.specs.declared.store_task.PairTask.TheVariants as task
use Rattle.oct_promise.specs.Regions.{IsRegion}

-- what a merge of two files answers
abbrev pub merge_of : Rule → List ℕ → List ℕ → Answer
merge_of rule first second =
    found_reply (task.Merge rule)
    (joined (map_in (loaded_of (Some first))) (map_in (loaded_of (Some second))))

-- the build of a region: its box, the text of the line that limits scans to it, and the files that
-- it is run over
pub record Share : Type 0 where
  pub box : Window
  pub limit : List ℕ
  pub files : Option Files

-- its script: that line before the whole script
abbrev pub script_for : Share → List ℕ → List ℕ
script_for share bytes = share.limit ++ 10 ∷ bytes

-- regions, and how their files are merged: the file of one, or what is merged by a rule of the
-- files of some and of others
pub data Plan : Type 0 where
  Region : Share → Plan
  Merged : Rule → Plan → Plan → Plan

-- the boxes of all regions
unfoldable pub boxes_of : Plan → List Window
boxes_of (Region share) = share.box ∷ []
boxes_of (Merged rule first second) = boxes_of first ++ boxes_of second

-- the file that this comes to, where the regions are built of a script
unfoldable pub file_of : Setup → List ℕ → Plan → List ℕ
file_of o bytes (Region share) = (build o share.files (script_for share bytes)).text
file_of o bytes (Merged rule first second) =
    (merge_of rule (file_of o bytes first) (file_of o bytes second)).text

-- what a region is built of: a line that limits scans to its box, and behind it a script that
-- regions may have in common, not too long
pub record IsBuilt (o : Setup) (files : Option Files) (bytes : List ℕ) (share : Share) : Type 0
  where
    pub one_line : All (λ b. is_in_line b ≡ true) share.limit
    pub region : IsRegion o files share.files share.box (ended (line_of share.limit))
        (lines_of o bytes)
    pub short : length (script_for share bytes) ≤ o.max_bytes

-- two files of regions, or of what was merged of some, aren't too large to be read
pub record AreMerged (o : Setup) (bytes : List ℕ) (first second : Plan) : Type 0 where
  pub few : length (file_of o bytes first) ≤ 2 ^ 30
  pub few_more : length (file_of o bytes second) ≤ 2 ^ 30

-- each region is built so, and each merge can read its files
unfoldable pub IsPlan : Setup → Option Files → List ℕ → Plan → Type 0
IsPlan o files bytes (Region share) = IsBuilt o files bytes share
IsPlan o files bytes (Merged rule first second) =
    IsPlan o files bytes first × IsPlan o files bytes second × AreMerged o bytes first second

-- ---- maps

-- the same of values, as maps are merged: those of a region, and what is merged of some and others
unfoldable pub values_in : Setup → List ℕ → Plan → Values
values_in o bytes (Region share) = (last_state o share.files (script_for share bytes)).values
values_in o bytes (Merged rule first second) =
    merged_values rule (values_in o bytes first) (values_in o bytes second)

-- each region is built so; maps are merged whatever their size
unfoldable pub AreBuilt : Setup → Option Files → List ℕ → Plan → Type 0
AreBuilt o files bytes (Region share) = IsBuilt o files bytes share
AreBuilt o files bytes (Merged rule first second) =
    AreBuilt o files bytes first × AreBuilt o files bytes second

-- A map has what all regions come to, and goes by the log-odds, the limits and the box of scans of
-- the one session. (The map of a region has the box of its region.)
pub record IsJoined (o : Setup) (files : Option Files) (bytes : List ℕ) (plan : Plan)
    (map : State) : Type 0 where
  pub values : SameValues map.values (values_in o bytes plan)
  pub base : map.base ≡ (last_state o files bytes).base
