mod AccountSums
