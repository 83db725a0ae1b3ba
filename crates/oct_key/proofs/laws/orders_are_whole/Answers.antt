use Rattle.oct_key.proofs.InOrder.{in_order_exactly, in_order_sorted, blocks_exactly, blocks_sorted}
use Rattle.oct_key.proofs.laws.orders_are_whole.Goals as goal

pub returns-clause-voxels : goal.returns-clause-voxels
returns-clause-voxels c k = in_order_exactly k

pub returns-clause-voxels_rise : goal.returns-clause-voxels_rise
returns-clause-voxels_rise c = in_order_sorted

pub returns-clause-blocks : goal.returns-clause-blocks
returns-clause-blocks c depth b few = blocks_exactly depth b few

pub returns-clause-blocks_rise : goal.returns-clause-blocks_rise
returns-clause-blocks_rise c depth = blocks_sorted depth
