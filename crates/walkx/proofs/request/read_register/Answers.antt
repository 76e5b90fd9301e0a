use Rattle.walkx.proofs.request.read_register.Goals as goal

pub read_place-requires-clause-word : goal.read_place-requires-clause-word
read_place-requires-clause-word g c =
    rw c.register_place-place.ensures.value c.register_word.ensures
