use Rattle.std.proofs.Common.{ℕ, ◌^◌, ◌<◌, sym, subst}
use Rattle.oct_key.proofs.Interleavings.{morton_below}
use Rattle.oct_scan.specs.Gathered.{IsSpanned}
use Rattle.oct_scan.proofs.entry.is_before.Goals as goal

pub from_morton-requires : goal.from_morton-requires
from_morton-requires c =
    let (rest, given) = c.in-Some.ensures.next in
    subst (λ (n : ℕ). n < 2 ^ 48) (sym given.coded) (morton_below given.voxel)

pub returns-in-Some : goal.returns-in-Some
returns-in-Some c = λ passed.
    let (rest, given) = c.in-Some.ensures.next in
    record {
      first = given.voxel;
      rest = rest;
      begun = given.first;
      apart = λ k spanned inside. c.is_passed_by.ensures passed k
          (subst (λ v. IsSpanned c.args.start v k)
          (c.from_morton.ensures.only given.voxel given.on_map (sym given.coded)) spanned)
          inside;
    }
