use Rattle.pricing_pool.proofs.sharing.price_sharing.Given as goal

abbrev pub ghosts-search_sharing : goal.ghosts-search_sharing
ghosts-search_sharing g a = record { priced = a.priced.now }
