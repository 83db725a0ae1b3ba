use Rattle.oct_values.proofs.Uniform.{uniform_exactly, known_exactly}
use Rattle.oct_values.proofs.Reached.{reached_exactly}
use Rattle.oct_values.proofs.laws.tests_tell_blocks.Goals as goal

pub returns-clause-uniform : goal.returns-clause-uniform
returns-clause-uniform c = λ values b ok. uniform_exactly values b ok

pub returns-clause-known : goal.returns-clause-known
returns-clause-known c = λ values b ok. known_exactly values b ok

pub returns-clause-reached : goal.returns-clause-reached
returns-clause-reached c = λ events b ok. reached_exactly events b ok
