use Rattle.std.proofs.Common.{◌≡◌, string_bytes}
use Rattle.std.proofs.lemmas.Result.{IfOk-at_ok}
use Rattle.oct_io.proofs.Filing.{files_insert, bytes_insert}
use Rattle.oct_io.proofs.memory_store.MemoryStoreStore.save.Goals as goal

-- the key is the name and the value is a copy of the bytes
pub returns-clause-saved : goal.returns-clause-saved
returns-clause-saved c =
    let named = IfOk-at_ok (λ key. string_bytes key ≡ c.args.name.now) c.in_ok-key.was
    c.from_str.ensures.ok in
    let copied = IfOk-at_ok (λ copy. copy ≡ c.args.bytes.now) c.in_ok-value.was
    c.from_slice.ensures.copied in
    files_insert c.args.self.now.files c.insert.new.self c.in_ok-key.key _ _ named
    (rw copied at c.in_ok-insert.ensures.updates)

-- and the files are of bytes
pub invariant_of-self : goal.invariant_of-self
invariant_of-self c =
    let copied = IfOk-at_ok (λ copy. copy ≡ c.args.bytes.now) c.in_ok-value.was
    c.from_slice.ensures.copied in
    record {
      bytes = bytes_insert c.insert.result c.args.self.now.files c.insert.new.self c.in_ok-key.key
          c.in_ok-value.value c.insert.ensures.updates c.insert.ensures.err c.args.self.now.bytes
          (rw copied c.each_fits.ensures);
    }
