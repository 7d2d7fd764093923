mod NextCuts
