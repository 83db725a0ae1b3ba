-- A `&` to cells reaches each value. Assumes `Logic`.
use mathlib.Core.List.{[], ◌++◌}
use base.Fml.{Incl-trans}
use contract.BorrowLft.{meet_⊑_left}
use denote.RattleType.{RattleType}
use denote.RawPtr.{RawPtr}
use denote.Param.Laws.{Laws}
use denote.Param.Shared.{copy_shared}
use denote.Struct.Laws.{field_copy}
use denote.Struct.Lending.{of_Lends}
use Rattle.std.specs.contracts.marker.PhantomData as mark
use Rattle.oct_cells.specs.contracts.cells.Cells as cells
use Rattle.oct_cells.proofs.cells.Cells.TheLaw.Statement.{statement}
use Rattle.oct_cells.proofs.Sharing.{row_shared, row_lends}

pub shares : (R : RattleType) (laws : Laws R) → statement R laws
shares R laws =
    let lives = Incl-trans (meet_⊑_left (R.lives ++ []) _) (meet_⊑_left R.lives []) in
    of_Lends (cells.struct R) (cells.the_codes R.Denot R.coded (mark.the_row RawPtr).coded)
    (cells.the_heap R) (cells.the_lent R)
    (λ c p. row_shared R laws.shr_laws c.at c.values)
    (copy_shared (mark.the_field RawPtr) (field_copy (mark.the_type RawPtr) tt), tt)
    (λ M 𝓤 𝓛 c p. row_lends 𝓛 (cells.the_row R).lives R laws lives c.at c.values)
